pub mod Parts
pub mod Newest
pub mod Kept
pub mod Known
pub mod Steps
pub mod Definitions
pub mod Endings
