-- What a journal is seen as.
use Rattle.std.specs.Prelude.{ℕ, List}
use Rattle.book.specs.declared.journal_entry.JournalEntry.{JournalEntry}

-- its entries in order, and for how many more there is room
pub record Entries : Type 0 where
  pub entries : List JournalEntry
  pub room : ℕ
