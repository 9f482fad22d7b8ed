pub mod Belows
pub mod Contexts
pub mod Built
pub mod Many
