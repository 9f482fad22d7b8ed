pub mod FreeKinds
pub mod Places
pub mod Nets
pub mod Marks
pub mod Working
pub mod Schedules
