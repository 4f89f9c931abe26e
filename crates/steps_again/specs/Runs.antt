-- What a book is about, and what made a call.
use Rattle.std.specs.Prelude.{◌≡◌}
use Rattle.numbering.specs.declared.numbered.Numbered.{Numbered}
use Rattle.book.specs.Run.{Run, HasAllTerms}
use Rattle.blocklock.specs.Passes.{LockTable}
use Rattle.shared.specs.declared.kept.Subject.{Subject}
use Rattle.shared.specs.Calls.{Viewed}
use Rattle.shared.specs.Duty.{Duty}

-- the dictionary of a base has all terms of it and of the block
abbrev pub KnowsAll : Numbered → Type 0
KnowsAll n = HasAllTerms n.base.terms n.base.dataset n.block.items

-- what a book of a numbered block is about
abbrev pub subject_of : Numbered → Subject
subject_of n = record { terms = n.base.terms; base = n.base.dataset; block = n.block.items }

-- what the passes of a shared book of a numbered block are for
abbrev pub duty_of : LockTable → Numbered → Duty
duty_of table n = record { table = table; subject = subject_of n }

-- a pass that has seen something else, and is the same otherwise
abbrev pub Sees : Viewed → Viewed → Type 0
Sees before after = after ≡ record before { seen = after.seen }

-- a book that has another history, and is about the same
abbrev pub Follows : Run → Run → Type 0
Follows before after = after ≡ record before { history = after.history }

-- a run of a numbered block
pub record IsOf (n : Numbered) (run : Run) : Type 0 where
  pub terms : run.terms ≡ n.base.terms
  pub block : run.block ≡ n.block.items
