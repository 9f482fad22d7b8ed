pub mod Fronts
pub mod Gathered
