-- The exports for Rust and C: in the order in which to read it.

-- What a reader must believe: the one rule, what is handed out, and each call by them.
pub mod Handed
pub mod Promises
-- For code over the lent state: words drawn off it, and a draw's answer in one number.
pub mod Moves
pub mod Packed
-- Laws.
pub mod MovesLaws
pub mod PackedLaws
pub mod Counting
pub mod Choosing
pub mod DrawLaws
pub mod PromisesLaws
pub mod WordLaws
pub mod CallLaws
pub mod RefusedKeeps
