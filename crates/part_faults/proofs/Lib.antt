mod Marking
mod Numbering
mod Wholes
mod Writing
mod Finding
