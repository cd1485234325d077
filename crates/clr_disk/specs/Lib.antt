pub mod Line
pub mod Opened
pub mod Place
pub mod Puts
pub mod Timed
