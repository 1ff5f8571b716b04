pub mod Joined
pub mod Merging
