pub mod JournalEntry
pub mod Run
pub mod PackedEntry
pub mod Entries
pub mod Journal
