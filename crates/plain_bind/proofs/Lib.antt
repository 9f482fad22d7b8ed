pub mod Cells
pub mod Bounding
pub mod Marked
