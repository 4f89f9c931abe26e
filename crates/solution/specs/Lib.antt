pub mod Sharing
pub mod Limits
pub mod Lookups
pub mod MappingOrder
