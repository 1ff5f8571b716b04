pub mod Truths
pub mod Choice
pub mod TruthOrder
pub mod Topmost
