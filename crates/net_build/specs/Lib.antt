pub mod Means
pub mod Faults
pub mod Builds
pub mod Below
pub mod Steps
