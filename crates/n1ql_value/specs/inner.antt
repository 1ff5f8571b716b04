-- For private clauses, the measures of recursions and the laws of the order: a reader of the public clauses needs nothing of it.
pub mod Rank
pub mod Places
pub mod ValueFalls
pub mod CollationByCases
pub mod CollationLaws
