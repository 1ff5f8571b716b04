pub mod Bytes
pub mod Words
pub mod Numbers
pub mod Signs
pub mod Quoted
pub mod Tokens
pub mod Lexemes
pub mod Spans
