pub mod CountedLaws
mod Noting
pub mod RecountLaws
