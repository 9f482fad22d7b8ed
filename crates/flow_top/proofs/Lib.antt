pub mod FmtLemmas
pub mod LibraryFaults
pub mod OutcomeLemmas
pub mod SimLemmas
pub mod SimStops
pub mod StopLemmas
pub mod TextFaults
