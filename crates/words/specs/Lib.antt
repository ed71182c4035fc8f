-- What the crate says of draws, in the order in which to read it.

-- What a reader must believe: the refusals' numbers, drawing below a bound and below a list of bounds, and what is done to a value drawn.
pub mod Refusal
pub mod Draw
pub mod Outcomes
pub mod Numbers
-- The test of a word in plain numbers, and the search for the first that passes it.
pub mod FirstPlace
pub mod GoodWord
-- What the order's demand 3 speaks of (its laws stand in proofs/): the outcomes of one draw,
pub mod OneOutcome
-- those of draws one after the other under one budget,
pub mod OneOutcomeOfDraws
pub mod DrawAfterDraw
pub mod EachInTurn
-- and words of 32 bits.
pub mod BelowItsBound
-- Every value has its share of all words.
pub mod Count
pub mod EqualShares
-- For code that draws: its arithmetic, its loops, and what it does to a value drawn.
pub mod Product
pub mod Threshold
pub mod DrawLoop
pub mod DrawsLoop
pub mod OutcomeLaws
pub mod NumbersLaws
-- The bench examples.
pub mod Table
pub mod Bench
-- The contracts by name, and that each leaves one answer.
pub mod Promises
pub mod PromisesLaws
