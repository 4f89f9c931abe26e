pub mod Readings
pub mod Values
