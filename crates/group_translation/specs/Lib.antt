pub mod Triples
pub mod Chains
pub mod Groups
