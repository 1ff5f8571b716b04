pub mod Mutations
pub mod Documents
pub mod Accepted
pub mod inner
