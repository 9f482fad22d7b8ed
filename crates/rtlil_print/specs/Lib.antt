pub mod Print
pub mod WellFormed
