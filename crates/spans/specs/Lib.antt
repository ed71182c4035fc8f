-- Numbers between two ends, both included: in the order in which to read it.

-- What a reader must believe: the outcomes, and how an outcome with a signed value becomes an answer.
pub mod Spans
pub mod IntAnswers
-- What their promises fix: one answer, the same at every larger budget; when a call is refused, and where its value lies.
pub mod OneIntAnswer
pub mod SpanBudgeted
pub mod SpanOutcomes
-- The bench examples.
pub mod SpanBench
-- The definitions by their cases, and the answers that code builds.
pub mod SpanLaws
pub mod IntAnswerLaws
-- The contracts by name, and that each leaves one answer.
pub mod Promises
pub mod PromisesLaws
-- Where the value of an answered call lies, of every generator.
pub mod Values
