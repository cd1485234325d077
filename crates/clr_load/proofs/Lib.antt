mod Versioned
mod Alike
pub mod Inside
mod Fronts
pub mod Texts
pub mod Columns
pub mod Causes
pub mod Loading
pub mod Staying
pub mod Selecting
pub mod Streaming
pub mod Versions
pub mod TextsRead
pub mod AllRead
pub mod AllGiven
pub mod Whole
pub mod Reopened
pub mod Blamed
pub mod OldPoints
pub mod TableKeys
pub mod TableChanges
pub mod ColumnsRead
pub mod RowsBack
pub mod PointStates
pub mod TablesRead
pub mod SameTables
pub mod Moved
pub mod TypedEdits
pub mod Places
