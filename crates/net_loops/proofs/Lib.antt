pub mod Circles
pub mod Levelling
pub mod Linking
pub mod Turning
pub mod Walking
