pub mod Read
pub mod Chosen
pub mod Occurrences
pub mod TruthLaws
pub mod TopmostLaws
