pub mod Known
pub mod Builder
