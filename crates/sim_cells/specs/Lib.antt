pub mod Choices
pub mod Registers
pub mod RegisterRuns
pub mod Memories
pub mod Places
pub mod Writes
pub mod KeptBits
pub mod MemoryRuns
