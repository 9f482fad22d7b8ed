pub mod Grouping
pub mod Sides
pub mod Ports
pub mod Contents
pub mod Gathered
pub mod Naming
pub mod Faults
pub mod Collected
