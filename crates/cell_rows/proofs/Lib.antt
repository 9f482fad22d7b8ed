pub mod Naming
pub mod Driven
pub mod Signs
pub mod Placing
pub mod ReadsBack
