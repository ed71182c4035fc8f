-- What signed numbers and their words mean over the integers, with the laws that hold of it.
pub mod Signed
pub mod SignedLaws
pub mod Widening
pub mod Lifting
pub mod Callers
pub mod Promises
pub mod PromisesLaws
