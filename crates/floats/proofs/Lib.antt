-- Which chances and intervals are taken, and which refusal each other has; that `uniform` never answers -0.0.
pub mod ChanceLaws
pub mod IntervalLaws
pub mod NoMinusZero
-- The bench examples.
pub mod Bench
