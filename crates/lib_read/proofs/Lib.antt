pub mod Codes
pub mod Counts
pub mod Mentioned
pub mod Rams
pub mod Sound
pub mod Whole
pub mod Within
