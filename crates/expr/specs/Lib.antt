pub mod Numerals
pub mod Outcomes
pub mod Parts
pub mod Texts
