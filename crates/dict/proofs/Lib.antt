pub mod Numbers
pub mod Frozen
pub mod Gathering
pub mod Taking
pub mod Numbering
pub mod Whole
pub mod StepLaws
pub mod Apart
