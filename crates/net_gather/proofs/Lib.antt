mod Below
pub mod Overs
mod Placing
mod FacesShown
mod Together
pub mod Interfaces
mod Settling
mod Within
mod Fitting
mod Few
mod Short
mod Tying
mod Clocked
mod Shaping
mod Shaped
