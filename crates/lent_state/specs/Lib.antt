-- The lent state: what a reader must believe (the generator that it stands for, and the one rule of every call over it), what reading and
-- writing promise, and the laws.
pub mod State
pub mod Answers
pub mod Placing
pub mod Promises
pub mod AnswersLaws
pub mod PromisesLaws
