pub mod Evaluable
pub mod Pipes
pub mod Seen
