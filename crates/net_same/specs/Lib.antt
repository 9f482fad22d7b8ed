pub mod Laws
pub mod Learning
pub mod Nets
pub mod Own
pub mod Same
