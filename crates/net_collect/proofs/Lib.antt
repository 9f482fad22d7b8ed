pub mod Addresses
pub mod Merging
pub mod Names
pub mod Past
pub mod Refusals
pub mod Says
pub mod Sorted
pub mod Words
