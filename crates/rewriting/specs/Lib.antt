pub mod Known
pub mod Keeping
pub mod Rewrites
pub mod Reads
pub mod Rooms
pub mod Laws
