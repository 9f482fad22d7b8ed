pub mod Unbuilds
