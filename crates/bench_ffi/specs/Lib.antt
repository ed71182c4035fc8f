-- What the loops give: words in a row of each generator, XORed.
pub mod Steps
pub mod Loops
pub mod Promises
pub mod PromisesLaws
