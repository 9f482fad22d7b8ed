pub mod Views
pub mod Settling
pub mod Traces
