-- The gap between two signed numbers, how the code works it out, and worked examples.
pub mod GapLaws
pub mod Spanning
pub mod Examples
