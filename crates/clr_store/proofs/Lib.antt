pub mod RowLemmas
pub mod Layouts
pub mod Effects
pub mod Inside
pub mod Updates
pub mod Placing
pub mod Replacing
pub mod Inserting
pub mod Given
pub mod Creating
pub mod Versions
pub mod Moving
mod There
mod Rising
pub mod TakenSteps
pub mod Renewing
pub mod Places
pub mod Setting
pub mod Beginning
pub mod Wanting
pub mod Turned
pub mod Ending
