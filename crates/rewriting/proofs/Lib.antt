pub mod Composing
pub mod Roomy
pub mod Staying
