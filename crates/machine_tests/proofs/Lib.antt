pub mod SeeingLaws
pub mod RunLaws
