-- The laws of the draw, in the order in which to read them: of the test of a word and the first good one,
pub mod GoodWord
-- the order's demand 3, of one draw
pub mod OneOutcome
pub mod AnsweredExactlyIf
pub mod RefusedExactlyIf
pub mod AnswerIsFirst
-- and of draws one after the other under one budget,
pub mod OneOutcomeOfDraws
pub mod OneDraw
pub mod DrawAfterDraw
pub mod EachInTurn
-- of both as the budget grows, as the words beyond it differ, and of their values.
pub mod UsedWithinBudget
pub mod LargerBudget
pub mod SettledNeverFalls
pub mod WordsWithinBudget
pub mod BelowItsBound
-- For code that draws: its threshold and its loops.
pub mod ThresholdLaws
pub mod DrawLoop
pub mod DrawsLoop
-- The bench examples.
pub mod Bench
