pub mod Libraries
pub mod Sound
pub mod Cells
pub mod Inouts
pub mod Documents
pub mod Whole
pub mod ReadLibraries
pub mod Texts
