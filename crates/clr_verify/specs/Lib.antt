pub mod Differences
pub mod Registers
pub mod Laws
pub mod Replay
pub mod Replies
