pub mod Expansion
pub mod Groups
pub mod Limits
pub mod Reading
pub mod Reads
