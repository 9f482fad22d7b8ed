pub mod Driving
pub mod Fitting
pub mod Slots
pub mod Sound
