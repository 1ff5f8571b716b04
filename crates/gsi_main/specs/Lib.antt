pub mod Faults
pub mod MemSource
pub mod MemSink
pub mod Reading
pub mod Writing
pub mod Status
pub mod Answer
pub mod Replay
