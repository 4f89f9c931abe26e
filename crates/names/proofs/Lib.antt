pub mod NumberLaws
pub mod JoinLaws
pub mod MadeLaws
pub mod AppearanceLaws
