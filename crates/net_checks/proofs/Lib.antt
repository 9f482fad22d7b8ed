pub mod Ranges
pub mod Joining
pub mod Contested
pub mod Within
pub mod Marked
pub mod Inverting
pub mod Alike
mod Answering
mod Interfaces
mod Shown
pub mod Handing
