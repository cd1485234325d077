pub mod Brief
pub mod Checking
pub mod CheckingOn
pub mod Laws
