pub mod Equal
pub mod Asked
pub mod Composed
pub mod Spans
