-- A generator's kind, its twister's position and twist, and its split.
pub mod Kind
pub mod KindLaws
pub mod Position
pub mod Decides
pub mod OwnParts
pub mod OwnPartsLaws
pub mod Splitting
pub mod SplittingLaws
pub mod Promises
pub mod PromisesLaws
pub mod SameLaws
pub mod SizedParts
