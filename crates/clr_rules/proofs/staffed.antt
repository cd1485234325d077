pub mod EveryKind
pub mod PutPeople
pub mod Puts
pub mod Throughout
