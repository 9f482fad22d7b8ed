pub mod Names
pub mod Edits
pub mod Redirect
pub mod Users
pub mod Ranks
pub mod Laws
pub mod Aliases
pub mod Drops
