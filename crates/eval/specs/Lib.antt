pub mod Changes
pub mod Groups
pub mod Scans
