pub mod Plain
pub mod Judging
pub mod Cell
pub mod Laws
pub mod Placing
