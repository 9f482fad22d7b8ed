pub mod Adding
pub mod Fitting
pub mod Joining
pub mod Longer
pub mod Reading
