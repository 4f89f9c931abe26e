pub mod Renaming
pub mod Answers
pub mod BasicPatterns
pub mod Members
