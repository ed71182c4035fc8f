-- The marked bench examples, in one table.
pub mod BenchTable
