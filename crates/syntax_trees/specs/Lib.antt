pub mod Operators
pub mod Expressions
pub mod Groups
pub mod Codes
