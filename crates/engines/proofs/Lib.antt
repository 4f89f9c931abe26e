pub mod Composed
pub mod Blocks
pub mod Bytes
pub mod Answered
pub mod Committed
