-- Draws below several bounds under one budget, made without their effect: in the order in which to read it.

-- What a reader must believe: the bounds of several draws, the values that words settle, what a rehearsal comes to, and what a turn leaves.
pub mod Bounds
pub mod Values
pub mod Rehearsal
pub mod Turns
-- For code that makes such draws, from any source: one word after the other, and the loops over a list of words and over a generator.
pub mod BoundsLaws
pub mod ValuesLaws
pub mod WordAfterWord
pub mod Rehearsing
pub mod Settling
pub mod Standing
pub mod Kinds
-- The contracts by name, and that each leaves one answer.
pub mod Promises
pub mod PromisesLaws
-- For a turn's code, and for code that takes turns.
pub mod TurnLaws
