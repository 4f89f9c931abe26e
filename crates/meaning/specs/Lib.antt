pub mod Vocabulary
pub mod Mapping
pub mod Operators
pub mod Solutions
pub mod Template
pub mod GraphOperations
pub mod Effect
pub mod Run
