pub mod Reads
pub mod Reading
pub mod Laws
