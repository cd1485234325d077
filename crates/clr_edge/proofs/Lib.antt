pub mod Chains
pub mod AtFault
pub mod Bytes
pub mod Databases
pub mod LineFeeds
