pub mod Versions
pub mod Stands
pub mod Tuples
pub mod Neighbours
