pub mod StaffFacts
pub mod Texts
