pub mod Counts
pub mod Lines
pub mod Placed
pub mod Running
pub mod Seeds
pub mod Viewing
