-- MT19937 twice, as the paper's sequence and as the table of mt19937ar.c, and the theorems that join the two.
pub mod Sequence
pub mod SequenceLaws
pub mod Table
pub mod TableLaws
pub mod DrawLaws
pub mod SameWords
pub mod Bounds
pub mod SizedParts
pub mod Vectors
pub mod Promises
pub mod PromisesLaws
