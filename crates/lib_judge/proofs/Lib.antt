pub mod Grouped
pub mod Looked
pub mod Single
pub mod Twice
