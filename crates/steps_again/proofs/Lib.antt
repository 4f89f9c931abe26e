pub mod RunLaws
pub mod SoundLaws
