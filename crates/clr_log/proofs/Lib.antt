pub mod Backwards
pub mod Wanted
pub mod Serving
pub mod CommandsTaken
