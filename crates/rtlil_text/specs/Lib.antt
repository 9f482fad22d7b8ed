pub mod Grammar
pub mod Reads
pub mod Read
pub mod ReadSignal
pub mod ReadLine
pub mod ReadState
pub mod ReadText
pub mod Text
