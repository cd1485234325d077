pub mod Answer
pub mod Open
pub mod Text
pub mod Undoing
