pub mod NumberLaws
pub mod TermLaws
pub mod LineLaws
pub mod EntryLaws
