pub mod Seeing
pub mod Terms
