pub mod Slices
pub mod Found
mod Keys
mod Places
pub mod CollationOfValues
pub mod RowLaws
