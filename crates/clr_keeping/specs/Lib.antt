pub mod Beginning
pub mod Keeping
pub mod Laws
pub mod TakenUp
pub mod Journal
pub mod Parts
pub mod Printing
