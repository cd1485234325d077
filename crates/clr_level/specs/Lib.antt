pub mod Placing
pub mod Journaling
pub mod Levelling
pub mod Forward
pub mod Restarting
pub mod Crash
pub mod Carrying
pub mod Renewing
