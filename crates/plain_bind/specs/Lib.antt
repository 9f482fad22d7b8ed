pub mod Names
pub mod Bound
pub mod Laws
