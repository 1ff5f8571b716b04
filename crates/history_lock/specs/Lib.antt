pub mod Events
pub mod Lending
pub mod Passes
pub mod Rule
