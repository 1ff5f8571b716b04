pub mod RowsById
pub mod Index
pub mod inner
