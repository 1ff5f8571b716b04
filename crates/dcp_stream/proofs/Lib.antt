pub mod Lowering
pub mod Advancing
