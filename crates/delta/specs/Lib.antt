pub mod Same
pub mod Sound
pub mod Shared
pub mod GraphSpan
