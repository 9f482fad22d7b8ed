pub mod RamNames
pub mod Options
pub mod RamRows
pub mod RamPins
