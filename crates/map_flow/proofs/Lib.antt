pub mod Mapping
pub mod Plans
pub mod Texts
