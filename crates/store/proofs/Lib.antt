pub mod Loops
pub mod Holding
pub mod KnownNumbers
pub mod Places
pub mod Standing
pub mod Distinct
pub mod Both
