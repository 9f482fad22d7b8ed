mod PinReads
mod Filling
mod Moving
pub mod Seeing
mod RegisterRuns
mod Products
mod Hitting
mod Fitting
mod ReadLists
mod Writing
mod Taking
mod MemStates
mod MemoryRuns
