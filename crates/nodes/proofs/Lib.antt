pub mod GroupLaws
pub mod TreeLaws
