pub mod Bounds
pub mod Lifting
pub mod Samples
pub mod Units
