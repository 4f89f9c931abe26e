pub mod Lacking
pub mod MappedSets
pub mod Sorted
pub mod RunLaws
pub mod Cuts
