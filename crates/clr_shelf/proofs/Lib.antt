mod ByGroup
pub mod FirstRow
pub mod Groups
mod GroupRuns
pub mod KeyOrder
pub mod Keys
pub mod Lists
pub mod Members
pub mod Places
pub mod Reading
pub mod NextGroups
pub mod RunOfGroup
pub mod SameRows
mod SortedPlaces
pub mod Spread
pub mod Parts
pub mod Starts
pub mod Listed
pub mod Halves
