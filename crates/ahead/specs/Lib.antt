-- The next words of a generator in a block: in the order in which to read it.

-- What a reader must believe.
pub mod Ahead
-- What code that takes words so may cite.
pub mod AheadLaws
-- The contracts by name, and that each leaves one answer.
pub mod Promises
pub mod PromisesLaws
