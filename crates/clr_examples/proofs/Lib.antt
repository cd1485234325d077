pub mod ReachedExamples
pub mod UpdateExamples
pub mod ArchiveExamples
