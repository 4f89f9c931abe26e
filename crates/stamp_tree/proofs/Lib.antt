pub mod Forks
pub mod Joins
