pub mod Spoken
pub mod Inputs
pub mod Stimulus
pub mod Whole
