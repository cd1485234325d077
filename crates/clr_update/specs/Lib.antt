pub mod Rows
pub mod Changes
pub mod Update
pub mod Entries
pub mod Laws
pub mod Delta
pub mod DeltaLaws
pub mod Shown
