pub mod Duty
pub mod Shown
pub mod Stopped
