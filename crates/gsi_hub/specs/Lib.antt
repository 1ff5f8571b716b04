pub mod Past
pub mod Commands
pub mod Snapshots
pub mod Pieces
pub mod Stages
pub mod Outcomes
pub mod inner
