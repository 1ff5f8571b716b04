pub mod Json
pub mod Reads
pub mod Missing
pub mod Valid
pub mod ReadBack
