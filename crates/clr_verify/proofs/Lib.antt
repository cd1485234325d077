pub mod Fronts
pub mod Exact
pub mod Same
pub mod Flat
pub mod Taken
pub mod Replied
