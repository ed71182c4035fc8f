-- What becomes of a stream's bits; that state and increment keep the size of the code's types.
pub mod StreamLaws
pub mod SizedParts
