pub mod Kinds
pub mod Operands
pub mod Rows
pub mod Pins
pub mod Carried
pub mod Written
pub mod Laws
