pub mod NoCommand
pub mod SentCommands
pub mod Shown
pub mod Posted
pub mod OneClearance
pub mod First
