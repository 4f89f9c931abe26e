pub mod Held
pub mod Tables
pub mod Base
