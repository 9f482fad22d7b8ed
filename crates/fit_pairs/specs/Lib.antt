pub mod Clocks
pub mod Items
pub mod Pairs
pub mod Placed
pub mod Priorities
