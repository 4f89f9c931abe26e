pub mod Expressions
pub mod Plans
pub mod Codes
