mod Answered
mod ById
mod Evaluable
pub mod Made
pub mod Texts
