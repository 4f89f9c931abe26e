pub mod Steps
pub mod Signs
pub mod Keywords
pub mod Many
pub mod Names
pub mod Reading
