pub mod Once
pub mod Growing
pub mod Kept
pub mod ArrayElements
