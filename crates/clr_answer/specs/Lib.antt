pub mod Begins
pub mod Card
pub mod Decision
pub mod Effect
pub mod Orders
