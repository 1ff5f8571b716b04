-- For private clauses: a reader of the public clauses needs nothing of it.
pub mod Runs
