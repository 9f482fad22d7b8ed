pub mod Locality
pub mod Marking
pub mod Placing
pub mod Pushing
pub mod Settling
pub mod Showing
pub mod Workings
pub mod Writing
