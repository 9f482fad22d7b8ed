mod Digits
mod Rooting
mod Placing
mod Wholeness
