pub mod LowBits
pub mod Joined
pub mod ReadBack
pub mod Fitting
