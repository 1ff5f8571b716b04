pub mod OverKeys
pub mod ShownRows
pub mod inner
