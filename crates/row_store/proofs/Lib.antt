mod Lanes
pub mod Tables
mod BitLists
