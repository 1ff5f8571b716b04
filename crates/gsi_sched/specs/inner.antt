-- For private clauses: a reader of the public clauses needs nothing of it.
pub mod Below
pub mod Stood
pub mod SlotLists
pub mod StreamSteps
pub mod Following
pub mod ClientTurns
pub mod Known
