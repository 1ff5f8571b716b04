pub mod Reading
pub mod AlikeStatements
pub mod Shown
pub mod Conditions
pub mod Covered
mod Formed
pub mod Overs
pub mod OversByCases
