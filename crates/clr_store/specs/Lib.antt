pub mod Change
pub mod Contract
pub mod Transaction
pub mod Moving
pub mod There
pub mod StepsTaken
pub mod Renewed
