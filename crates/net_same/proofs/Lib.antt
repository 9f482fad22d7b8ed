pub mod Following
pub mod Joining
pub mod Learning
pub mod Matching
pub mod Near
