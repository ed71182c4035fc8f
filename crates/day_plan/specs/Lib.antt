-- The plan of a day: in the order in which to read it.

-- What a reader must believe: a day laid out, and the plan over any words; with an example.
pub mod Day
pub mod DayExample
-- What each call promises; and what that fixes: one answer and one day, in which each inlet has its share, the same at every larger budget.
pub mod Promises
pub mod PromisesLaws
pub mod ItsShare
pub mod DayBudgeted
-- For code that lays a day out and plans it.
pub mod DayLaws
pub mod DayAnswers
