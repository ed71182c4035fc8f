-- xoshiro256++ and its seeding, as their authors' files have them, with what is proved of the definitions.
pub mod SplitMix64
pub mod Generator
pub mod Seed
pub mod Jump
pub mod SeedLaws
pub mod SizedParts
pub mod Vectors
pub mod Promises
pub mod PromisesLaws
