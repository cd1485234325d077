pub mod LiveMarks
pub mod Spreading
pub mod Tokens
