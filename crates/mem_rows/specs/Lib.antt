pub mod Groups
pub mod Rows
pub mod Limits
pub mod Pins
pub mod ByType
