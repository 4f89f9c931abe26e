pub mod Dictionary
pub mod Ranks
