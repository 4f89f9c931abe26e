pub mod Failures
pub mod Files
pub mod Inputs
pub mod Journals
pub mod Outputs
pub mod Verdicts
