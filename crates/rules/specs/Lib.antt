pub mod Refusal
pub mod Requests
pub mod Cutting
pub mod Cuts
pub mod Terms
pub mod Parts
pub mod Long
