pub mod VerdictLaws
pub mod CutLaws
pub mod SideLaws
pub mod Sent
pub mod TermLaws
pub mod LongLaws
