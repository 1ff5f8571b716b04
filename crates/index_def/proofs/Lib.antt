pub mod Silence
pub mod Formed
pub mod RowsOfDocument
pub mod OneRow
pub mod Sending
