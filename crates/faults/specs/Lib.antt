pub mod Faults
pub mod Kinds
pub mod Walk
