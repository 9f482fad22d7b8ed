mod Capping
mod Digits
mod Sizes
mod Spelled
mod Texts
