-- What the program writes of a run with its journal: texts of one history.
use Rattle.std.specs.Prelude.{◌≡◌, ◌≤◌, ℕ, List, length, map}
use Rattle.datasets.specs.Dataset.{Dataset}
use Rattle.datasets.specs.declared.id.Id.{Id}
use Rattle.terms.specs.declared.term.Term.{Term}
use Rattle.dict.specs.Dictionary.{numbers}
use Rattle.meaning.specs.Run.{Request, run_of_first}
use Rattle.delta.specs.declared.finished.Outcome.{Outcome}
use Rattle.store.specs.Base.{Base}
use Rattle.book.specs.Run.{Run, front_run}
use Rattle.journal.specs.Text.{journal_text}
use Rattle.replay.specs.Lines.{line_of}
use Rattle.command_line.specs.declared.fault.Fault.{Fault}
use Rattle.command_line.specs.declared.fault.Fault.TheVariants as told
use Rattle.command_line.specs.declared.fault.File.TheVariants as file
use Rattle.engines.specs.Inputs.{IsFaultOf}
use Rattle.engines.specs.Journals.{AreOf, IsJournalAt, IsReplay}
use Rattle.engines.specs.Outputs.{Taken, Grew, GrewInPart}

-- a fault of a run whose journal is written too
abbrev pub IsFaultWithJournal : (base block : List ℕ) → Fault → Type 0
IsFaultWithJournal base block (told.CannotWrite file.Journal) = Unit {0}
IsFaultWithJournal base block fault = IsFaultOf base block fault

-- what a book comes to, and the text of its history
pub record IsRecordOf (book : Run) (tag : ℕ) (outcome : Outcome) (journal : List ℕ) : Type 0 where
  pub outcome_is : (outcome.dataset, outcome.replies) ≡ front_run book
  pub journal_is : journal ≡ journal_text tag (map (line_of book.terms) book.history)

-- the same of some lawful history that commits the whole block
pub record IsRecordAt (base : Base) (block : List (Request Id)) (outcome : Outcome) (journal : List ℕ) : Type 0 where
  pub front : ℕ
  pub whole : length block ≤ front
  pub journal_is : IsJournalAt base block journal front
  pub outcome_is : (outcome.dataset, outcome.replies) ≡ run_of_first (numbers base.terms) front block base.dataset

-- dataset and replies are the answer to the requests that are committed behind the journal, which
-- are the whole block
abbrev pub IsRecord : (before : Dataset Term) (requests : List (Request Term)) (dataset replies journal : List ℕ) → Type 0
IsRecord before requests dataset replies journal = (replay : IsReplay before requests journal dataset replies) × (length requests ≤ replay.front)

-- the writers have the texts of one history
abbrev pub WroteJournal : (base block : List ℕ) → (written told kept : Taken) → Type 0
WroteJournal base block written told kept =
    (before : Dataset Term) × (requests : List (Request Term)) × (dataset replies journal : List ℕ)
    × AreOf base block before requests × IsRecord before requests dataset replies journal × Grew written dataset × Grew told replies × Grew kept journal

-- the same, but for the end of the journal
abbrev pub WroteJournalInPart : (base block : List ℕ) → (written told kept : Taken) → Type 0
WroteJournalInPart base block written told kept =
    (before : Dataset Term) × (requests : List (Request Term)) × (dataset replies journal : List ℕ)
    × AreOf base block before requests × IsRecord before requests dataset replies journal × Grew written dataset × Grew told replies × GrewInPart kept journal
