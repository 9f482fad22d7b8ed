pub mod Looks
pub mod Shows
pub mod Cells
pub mod SimStates
