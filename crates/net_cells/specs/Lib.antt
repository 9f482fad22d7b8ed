pub mod Wires
pub mod Starts
pub mod Cells
pub mod Clocks
pub mod Parts
