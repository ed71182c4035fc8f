-- What making and seeding a generator hand back.
pub mod Make
pub mod MakeLaws
pub mod Seeding
pub mod Promises
pub mod PromisesLaws
pub mod SeedingLaws
