pub mod Sound
pub mod Runs
