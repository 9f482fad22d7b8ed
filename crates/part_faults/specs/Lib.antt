pub mod Parts
pub mod Driven
pub mod Ids
pub mod Writes
pub mod Faults
pub mod Tables
