pub mod Ends
pub mod CutLaws
pub mod QuotedLaws
pub mod LiteralLaws
pub mod TermLaws
pub mod LineLaws
