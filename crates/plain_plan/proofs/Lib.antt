pub mod Gathered
pub mod Roomy
pub mod Scored
pub mod Walked
