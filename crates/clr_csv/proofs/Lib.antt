pub mod Records
pub mod Readers
pub mod RowLemmas
pub mod FieldLemmas
pub mod Letters
pub mod Pairs
pub mod Sources
