pub mod Bytes
pub mod Values
pub mod Lexes
pub mod Lex
pub mod Limits
pub mod Lines
pub mod Spelling
