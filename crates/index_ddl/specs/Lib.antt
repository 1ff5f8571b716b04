pub mod Catalogs
pub mod inner
