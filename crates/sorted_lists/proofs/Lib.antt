pub mod Orderings
pub mod Exchange
pub mod InOrder
pub mod Places
pub mod Filters
pub mod Once
pub mod Stable
pub mod Members
