pub mod Meaning
pub mod Replay
pub mod Blocks
