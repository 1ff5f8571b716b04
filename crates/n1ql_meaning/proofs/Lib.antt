pub mod Levels
pub mod Frames
pub mod RowsByDocument
pub mod InOrder
pub mod Finishing
pub mod Alike
pub mod Computing
