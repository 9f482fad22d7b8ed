pub mod Naming
pub mod Numbers
pub mod Operands
pub mod Rows
pub mod Selecting
