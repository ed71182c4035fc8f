-- The parts of a generator that is made or seeded have the size of the code's types.
pub mod SizedParts
