-- What the loops by value give: words and draws in a row of a lent generator.
pub mod Rows
pub mod Promises
pub mod PromisesLaws
