-- The shuffle of a list: in the order in which to read it.

-- What a reader must believe: the swaps of a list, the shuffle over any words, and its draws performed as far as a budget goes.
pub mod Swap
pub mod Shuffle
pub mod Replies
pub mod Performing
-- What the shuffle's promise fixes: one answer and one list, the same at every larger budget, place after place, with the same entries.
pub mod OneShuffle
pub mod ShuffleBudgeted
pub mod PlacesInTurn
pub mod SameEntries
-- The bench examples.
pub mod ShuffleBench
-- The contracts by name, and that each leaves one answer.
pub mod Promises
pub mod PromisesLaws
-- For the code: the swaps, the shuffle by its cases, and the loop of swaps.
pub mod SwapLaws
pub mod ShuffleLaws
pub mod PerformingLaws
pub mod ShuffleAnswers
