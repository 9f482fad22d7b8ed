pub mod Choice
pub mod Chosen
pub mod Walks
pub mod Steps
pub mod Rams
pub mod Fewest
pub mod Sites
pub mod Openings
