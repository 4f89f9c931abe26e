pub mod Alike
pub mod Keeping
pub mod SlotLaws
