pub mod Calendar
pub mod OpenPrinted
pub mod RowsLent
pub mod LineLoops
