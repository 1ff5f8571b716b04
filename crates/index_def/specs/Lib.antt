pub mod Mentions
pub mod Definitions
pub mod Deferral
pub mod Reasons
pub mod Forms
pub mod Keys
pub mod Index
pub mod LiveIndexes
