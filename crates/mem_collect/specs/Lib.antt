pub mod Spans
pub mod Pieces
pub mod Unpacked
pub mod Answers
