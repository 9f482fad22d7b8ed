pub mod Faults
pub mod Judge
pub mod Names
pub mod Raw
pub mod Sketch
pub mod Variants
