pub mod Inits
pub mod Filled
