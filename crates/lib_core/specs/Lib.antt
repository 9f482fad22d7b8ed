pub mod CellNames
pub mod Fills
pub mod Kinds
pub mod Lending
pub mod Picks
pub mod Rams
