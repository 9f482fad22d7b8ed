pub mod Counts
pub mod Canonical
pub mod PrintedSignals
pub mod PrintedOptions
pub mod Statements
pub mod RoundTrip
