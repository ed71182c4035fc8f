-- The two PCG generators, from O'Neill's paper, over one definition of their step, their increment and their seeding.
pub mod Lcg
pub mod Pcg32
pub mod Pcg64
pub mod SizedParts
pub mod Vectors
pub mod Pcg32Promises
pub mod Pcg32PromisesLaws
pub mod Pcg64Promises
pub mod Pcg64PromisesLaws
