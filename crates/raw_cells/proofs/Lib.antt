pub mod Ends
pub mod Alike
pub mod Slots
