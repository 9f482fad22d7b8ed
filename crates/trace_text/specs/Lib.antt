pub mod Lengths
pub mod Trace
