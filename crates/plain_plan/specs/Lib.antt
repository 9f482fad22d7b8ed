pub mod Chosen
pub mod Steps
pub mod Planned
pub mod Rooms
pub mod Laws
