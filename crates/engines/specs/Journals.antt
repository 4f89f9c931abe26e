-- Journals of runs: what one is of a base and a block, and what the program answers to one.
use Rattle.std.specs.Prelude.{◌≡◌, ℕ, List, map, Ok}
use Rattle.datasets.specs.Dataset.{Dataset}
use Rattle.datasets.specs.declared.id.Id.{Id}
use Rattle.terms.specs.declared.term.Term.{Term}
use Rattle.dict.specs.Dictionary.{written}
use Rattle.meaning.specs.Run.{Request, run_of_first}
use Rattle.canonical_nquads.specs.Canonical.{canonical}
use Rattle.canonical_nquads.specs.Tag.{IsTagOf}
use Rattle.store.specs.Base.{Base}
use Rattle.numbering.specs.Numbered.{IsNumbered}
use Rattle.block_machine.specs.Serial.{IsHistory}
use Rattle.book.specs.Run.{Run, setting_of, state_of, front_run}
use Rattle.delta.specs.declared.finished.Outcome.{Outcome}
use Rattle.journal.specs.declared.fault.JournalFault.{JournalFault}
use Rattle.journal.specs.declared.fault.JournalFault.TheVariants as journal_faults
use Rattle.journal.specs.declared.lines.Line.{Line}
use Rattle.journal.specs.Text.{journal_text}
use Rattle.journal.specs.Journal.{IsFirstBad}
use Rattle.replay.specs.Lines.{line_of}
use Rattle.replay.specs.Replays.{StopsAt, IsReplayOf}
use Rattle.command_line.specs.Replies.{reply_lines}
use Rattle.command_line.specs.declared.fault.Fault.{Fault}
use Rattle.command_line.specs.declared.fault.Fault.TheVariants as told
use Rattle.command_line.specs.declared.fault.File.TheVariants as file
use Rattle.engines.specs.Inputs.{IsBaseAnswer, IsBlockAnswer, IsFaultOf}
use Rattle.engines.specs.Outputs.{Taken, Grew, IsPart}

-- at numbers of terms: the journal is the text of a lawful history of the block, behind which so
-- many requests are committed
pub record IsJournalAt (base : Base) (block : List (Request Id)) (journal : List ℕ) (front : ℕ) : Type 0 where
  pub book : Run
  pub terms_are : book.terms ≡ base.terms
  pub dataset_is : book.base ≡ base.dataset
  pub block_is : book.block ≡ block
  pub lawful : IsHistory (setting_of book) book.history
  pub journal_is : journal ≡ journal_text base.tag (map (line_of base.terms) book.history)
  pub front_is : (state_of book).front ≡ front

-- the outcome of the requests that are committed behind a journal's lines
pub record IsFrontOf (base : Base) (block : List (Request Id)) (lines : List Line) (outcome : Outcome) : Type 0 where
  pub book : Run
  pub replayed : IsReplayOf base.terms base.dataset block lines book
  pub lawful : IsHistory (setting_of book) book.history
  pub outcome_is : (outcome.dataset, outcome.replies) ≡ front_run book

-- what is told of a journal that was not taken
abbrev pub journal_fault : JournalFault → Fault
journal_fault journal_faults.OutOfMemory = told.Memory
journal_fault (journal_faults.BadEntry n) = told.BadEntry n
journal_fault (journal_faults.Illegal n) = told.Illegal n

-- the first line that is not lawful; memory may run out at any lines
abbrev pub IsFaultOfLines : Base → List (Request Id) → List Line → Fault → Type 0
IsFaultOfLines base block lines (told.Illegal n) = StopsAt base.terms base.dataset block lines n
IsFaultOfLines base block lines told.Memory = Unit {0}
IsFaultOfLines base block lines _ = ⊥

-- the same of a dataset and a block
pub record IsJournalOf (before : Dataset Term) (requests : List (Request Term)) (journal : List ℕ) (front : ℕ) : Type 0 where
  pub base : Base
  pub block : List (Request Id)
  pub numbered : IsNumbered before requests base block
  pub journal_is : IsJournalAt base block journal front

-- the canonical text of the dataset after the first n requests, with the tag of the dataset before
-- them, and their reply lines
pub record IsAnswerAfter (n : ℕ) (before : Dataset Term) (requests : List (Request Term)) (dataset replies : List ℕ) : Type 0 where
  pub tag : ℕ
  pub tagged : IsTagOf before tag
  pub dataset_is : dataset ≡ canonical (run_of_first written n requests before).0 tag
  pub replies_are : replies ≡ reply_lines (run_of_first written n requests before).1

-- the answer to the requests that are committed behind a journal
pub record IsReplay (before : Dataset Term) (requests : List (Request Term)) (journal dataset replies : List ℕ) : Type 0 where
  pub front : ℕ
  pub journal_is : IsJournalOf before requests journal front
  pub answer : IsAnswerAfter front before requests dataset replies

-- the first bad entry of the journal, or the first that is not lawful; memory may run out at any
-- journal
abbrev pub IsReplayFault : (before : Dataset Term) (requests : List (Request Term)) (journal : List ℕ) → Fault → Type 0
IsReplayFault before requests journal (told.BadEntry n) = (base : Base) × (block : List (Request Id)) × IsNumbered before requests base block × IsFirstBad base.tag journal n
IsReplayFault before requests journal (told.Illegal n) =
    (base : Base) × (block : List (Request Id)) × IsNumbered before requests base block
    × ((lines : List Line) × (journal ≡ journal_text base.tag lines) × StopsAt base.terms base.dataset block lines n)
IsReplayFault before requests journal told.Memory = Unit {0}
IsReplayFault before requests journal _ = ⊥

-- ---- of the bytes of a base, of a block and of a journal

-- the bytes are those of this dataset and of these requests
abbrev pub AreOf : (base block : List ℕ) → Dataset Term → List (Request Term) → Type 0
AreOf base block before requests = IsBaseAnswer base (Ok before) × IsBlockAnswer block (Ok requests)

-- a fault of the base or the block, of the journal where both are read, of memory or of a device
abbrev pub IsFaultOfReplay : (base block journal : List ℕ) → Fault → Type 0
IsFaultOfReplay base block journal (told.CannotRead file.Journal) = (before : Dataset Term) × (requests : List (Request Term)) × AreOf base block before requests
IsFaultOfReplay base block journal (told.BadEntry n) =
    (before : Dataset Term) × (requests : List (Request Term)) × AreOf base block before requests × IsReplayFault before requests journal (told.BadEntry n)
IsFaultOfReplay base block journal (told.Illegal n) =
    (before : Dataset Term) × (requests : List (Request Term)) × AreOf base block before requests × IsReplayFault before requests journal (told.Illegal n)
IsFaultOfReplay base block journal fault = IsFaultOf base block fault

-- the writers have the answer to the requests that are committed behind the journal
abbrev pub WroteReplay : (base block journal : List ℕ) → (written told : Taken) → Type 0
WroteReplay base block journal written told =
    (before : Dataset Term) × (requests : List (Request Term)) × (dataset replies : List ℕ)
    × AreOf base block before requests × IsReplay before requests journal dataset replies × Grew written dataset × Grew told replies

-- the writers have it up to where one of them failed
abbrev pub WroteReplayInPart : (base block journal : List ℕ) → (written told : Taken) → Type 0
WroteReplayInPart base block journal written told =
    (before : Dataset Term) × (requests : List (Request Term)) × (dataset replies : List ℕ)
    × AreOf base block before requests × IsReplay before requests journal dataset replies × IsPart written told dataset replies
