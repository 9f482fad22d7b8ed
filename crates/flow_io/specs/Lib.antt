pub mod Answers
pub mod Causes
pub mod Counts
pub mod Files
pub mod Known
pub mod MemState
