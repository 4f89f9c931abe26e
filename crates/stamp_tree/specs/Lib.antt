pub mod Standings
pub mod Pairs
pub mod Leading
