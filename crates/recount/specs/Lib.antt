pub mod Counted
pub mod Recounting
