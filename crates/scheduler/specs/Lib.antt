pub mod Task
pub mod Hints
