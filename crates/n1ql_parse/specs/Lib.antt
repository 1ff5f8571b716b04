pub mod Input
pub mod Readings
pub mod Faults
pub mod inner
