pub mod RangeAlgebra
pub mod Bounding
pub mod Spans
pub mod Covering
pub mod Fits
pub mod Choice
pub mod inner
