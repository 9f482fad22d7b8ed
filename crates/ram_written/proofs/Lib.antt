pub mod Found
pub mod Levels
pub mod PortsBack
pub mod Rows
pub mod Strange
pub mod Known
