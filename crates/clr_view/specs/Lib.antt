pub mod Live
pub mod Spread
pub mod Tokens
pub mod View
