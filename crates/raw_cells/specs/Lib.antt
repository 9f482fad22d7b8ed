pub mod Bits
pub mod Clocks
pub mod Rows
pub mod RamCells
pub mod Tied
pub mod Shaped
