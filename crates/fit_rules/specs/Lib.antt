pub mod Bits
pub mod Judging
pub mod Limits
pub mod Standing
pub mod Shape
pub mod Rules
pub mod Candidates
pub mod Fits
