pub mod Below
pub mod Lower
pub mod Kept
pub mod Verdicts
