pub mod NoCommand
pub mod Sent
pub mod OneClearance
