pub mod About
pub mod Steps
pub mod Words
pub mod Log
pub mod Commands
pub mod Walked
