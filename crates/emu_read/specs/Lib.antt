pub mod Joining
pub mod Emulating
pub mod Enable
