-- What a lent draw of a float and its by-value form have in common, and the values of floats drawn.
pub mod Laws
pub mod Values
