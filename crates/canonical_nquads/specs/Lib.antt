pub mod Canonical
pub mod Placed
pub mod Tag
pub mod Beginning
pub mod Fed
pub mod Rising
pub mod Ranked
