-- What the list calls hand back: in the order in which to read it.

-- What a reader must believe: what is refused before a word is drawn, and the outcomes of the calls.
pub mod Limit
pub mod Checks
pub mod Choosing
pub mod Slicing
pub mod Replies
-- What their promises fix: when a call is refused, where its answer lies, the same answer at every larger budget; one answer.
pub mod CheckLaws
pub mod CheckedDraws
pub mod SlicingOutcomes
pub mod OneListAnswer
-- For the code: what it builds is the answer.
pub mod CheckedAnswers
pub mod ChoosingLaws
pub mod SlicingLaws
-- The contracts by name, and that each leaves one answer.
pub mod Promises
pub mod PromisesLaws
