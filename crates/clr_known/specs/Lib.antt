pub mod Clean
pub mod FilesAlone
pub mod Known
pub mod OldTables
