pub mod ArgumentWords
pub mod Parsed
pub mod Syntax
