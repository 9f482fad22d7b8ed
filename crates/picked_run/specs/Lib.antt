pub mod Conditions
pub mod States
pub mod Settled
pub mod PickedRuns
