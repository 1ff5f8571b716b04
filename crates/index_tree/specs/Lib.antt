pub mod Range
pub mod Trees
pub mod inner
