pub mod Along
pub mod Leading
pub mod Overlay
pub mod Settled
pub mod Shown
