-- What the loop gives: draws in a row of a lent generator.
pub mod Rows
pub mod RowsLaws
pub mod Promises
pub mod PromisesLaws
