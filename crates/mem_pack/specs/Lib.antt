pub mod Numbers
pub mod Lists
pub mod Packed
pub mod Laws
