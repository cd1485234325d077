pub mod DeadFences
pub mod FenceCuts
pub mod LiveSections
