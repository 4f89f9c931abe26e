pub mod Names
pub mod Numbers
pub mod Made
pub mod Appearance
