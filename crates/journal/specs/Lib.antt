pub mod Text
pub mod Lines
pub mod Journal
pub mod Words
pub mod ReadTerms
pub mod Reading
pub mod Entry
