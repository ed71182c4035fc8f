-- Floats and their bit patterns.
pub mod Patterns
pub mod NanLaws
pub mod Promises
pub mod PromisesLaws
