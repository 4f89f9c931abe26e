pub mod RunLaws
pub mod TextLaws
pub mod Options
pub mod ByteLaws
