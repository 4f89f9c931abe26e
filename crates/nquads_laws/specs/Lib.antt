pub mod WellFormed
pub mod Named
