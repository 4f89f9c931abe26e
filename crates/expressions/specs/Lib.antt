pub mod Operators
pub mod Calls
pub mod Grammar
pub mod Reading
