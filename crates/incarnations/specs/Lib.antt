pub mod Statuses
pub mod Slots
pub mod Standings
pub mod Kept
