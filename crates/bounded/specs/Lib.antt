-- What the calls hand back that draw one number: in the order in which to read it.

-- What a reader must believe: how an outcome over the generator's words becomes an answer, and the outcomes of the calls.
pub mod Answers
pub mod Ranges
-- What their promises fix: one answer, the same at every larger budget; when a call is refused, and where its value lies.
pub mod OneAnswer
pub mod Budgeted
pub mod RangeOutcomes
-- For code that draws from a generator: the one loop.
pub mod Trying
pub mod AnswerLaws
pub mod RangeLaws
-- The contracts by name, and that each leaves one answer.
pub mod Promises
pub mod PromisesLaws
-- Where the value of an answered call lies, of every generator.
pub mod Values
