pub mod Chosen
pub mod Testing
pub mod Simulates
