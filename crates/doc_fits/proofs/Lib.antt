mod Deciding
mod Taking
mod Signals
mod Walking
mod Documents
