pub mod Moments
pub mod Printed
