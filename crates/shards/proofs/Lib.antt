mod Members
mod ShardLaws
mod Marks
pub mod FoundParts
