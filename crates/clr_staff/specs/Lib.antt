pub mod Laws
pub mod Staff
pub mod Login
pub mod Logins
