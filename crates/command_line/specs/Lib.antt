pub mod Replies
pub mod Faults
pub mod CommandLine
