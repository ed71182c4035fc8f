-- What the contracts of the program's functions cite.
pub mod Decimal
pub mod DecimalLaws
pub mod Slots
