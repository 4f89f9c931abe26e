pub mod Changing
pub mod Filtered
pub mod Filtering
pub mod Lengths
pub mod Neighbours
pub mod Presences
pub mod Scanning
pub mod Speaking
