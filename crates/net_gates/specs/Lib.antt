pub mod Adds
pub mod Cells
pub mod Meanings
pub mod Registers
pub mod Flags
pub mod Laws
