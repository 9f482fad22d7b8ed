pub mod Limbs
pub mod Rows
pub mod Bits
