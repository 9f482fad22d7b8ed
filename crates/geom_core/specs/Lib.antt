pub mod Layout
pub mod Places
pub mod Runs
pub mod Widths
