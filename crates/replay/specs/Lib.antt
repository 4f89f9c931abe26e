pub mod Lines
pub mod Kept
pub mod Found
pub mod Replays
pub mod Following
pub mod Noted
