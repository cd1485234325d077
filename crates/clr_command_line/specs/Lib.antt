pub mod Around
pub mod CommandLine
pub mod OwnFiles
pub mod Report
