pub mod SignLaws
pub mod KeywordLaws
pub mod ManyLaws
pub mod NameLaws
