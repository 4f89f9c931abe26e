pub mod Words
pub mod CallLaws
pub mod ChainLaws
pub mod Primaries
pub mod Levels
pub mod Constraints
