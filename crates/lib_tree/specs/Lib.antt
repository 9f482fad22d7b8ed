pub mod Faults
pub mod Grammar
pub mod Lex
pub mod Lexical
pub mod Machine
pub mod Reading
pub mod Words
