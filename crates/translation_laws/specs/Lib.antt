pub mod Each
pub mod Widths
pub mod Written
pub mod Formed
pub mod Spelled
pub mod Tokens
