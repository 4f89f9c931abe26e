-- What a replay comes to.
use Rattle.std.specs.Prelude.{◌≡◌, ◌⊎◌, ℕ, ◌+◌, List, length, take, Some, slice_get}
use Rattle.terms.specs.declared.term.Term.{Term}
use Rattle.datasets.specs.declared.id.Id.{Id}
use Rattle.dict.specs.Dictionary.{is_known, numbers}
use Rattle.meaning.specs.Run.{Request, answer_of}
use Rattle.reads.specs.Reads.{View}
use Rattle.reads.specs.declared.note.Note.{Note}
use Rattle.incarnations.specs.Slots.{transcript_of}
use Rattle.incarnations.specs.declared.state.Entry.{Entry}
use Rattle.validate.specs.Below.{slot_at}
use Rattle.block_machine.specs.Serial.{IsHistory, IsLawful}
use Rattle.book.specs.Run.{Run, setting_of, state_of}
use Rattle.journal.specs.declared.lines.Line.{Line}
use Rattle.journal.specs.declared.lines.Event.TheVariants.{Publish}
use Rattle.journal.specs.declared.lines.Reply.TheVariants.{Published}
use Rattle.journal.specs.declared.fault.JournalFault.{JournalFault}
use Rattle.journal.specs.declared.fault.JournalFault.TheVariants.{OutOfMemory, BadEntry, Illegal}
use Rattle.replay.specs.Lines.{HasLines, IsEntryOf}
use Rattle.replay.specs.Noted.{AsksForOther, EndsBefore}

-- no entry of this line is lawful after the run's history
abbrev pub NoneIsLawful : Run → Line → Type 0
NoneIsLawful run line = (e : Entry) → IsEntryOf run.terms line e → IsLawful (setting_of run) (state_of run) e → ⊥

-- what a request has noted
abbrev pub notes_at : Run → ℕ → List Note
notes_at run i = transcript_of (slot_at (state_of run).slots i).notes

-- the notes of a request, if there is one, are not those of the run that they answer
abbrev pub HasOtherNotes : Run → ℕ → Type 0
HasOtherNotes run i =
    (r : Request Id) → slice_get run.block i ≡ Some r
    → AsksForOther r (notes_at run i) ⊎ EndsBefore (is_known run.terms) (answer_of (numbers run.terms) i r) (notes_at run i)

-- The line tells of a publication. The run that was published is in no journal, and the notes don't
-- give it again.
pub record IsOfOtherNotes (run : Run) (line : Line) : Type 0 where
  pub request : ℕ
  pub incarnation : ℕ
  pub event : line.event ≡ Publish request incarnation
  pub reply : line.reply ≡ Published
  pub notes : HasOtherNotes run request

-- no entry of the line is lawful, or it is a publication of a run that is not found
abbrev pub IsUnlawful : Run → Line → Type 0
IsUnlawful run line = NoneIsLawful run line ⊎ IsOfOtherNotes run line

-- A replay stops at line n, counted from 1: some lawful history has the lines before it, and it
-- goes on by no lawful entry of that line.
pub record StopsAt (terms : List Term) (base : View) (block : List (Request Id)) (lines : List Line) (n : ℕ) : Type 0 where
  pub history : List Entry
  pub line : Line
  pub number : n ≡ length history + 1
  pub at : slice_get lines (length history) ≡ Some line
  pub before : HasLines terms history (take (length history) lines)
  pub lawful : IsHistory (setting_of (record { terms = terms; base = base; block = block; history = history })) history
  pub unlawful : IsUnlawful (record { terms = terms; base = base; block = block; history = history }) line

-- why lines were not taken: want of memory, or the line at which the replay stops
abbrev pub IsFault : List Term → View → List (Request Id) → List Line → JournalFault → Type 0
IsFault terms base block lines OutOfMemory = Unit {0}
IsFault terms base block lines (BadEntry n) = ⊥
IsFault terms base block lines (Illegal n) = StopsAt terms base block lines n

-- the book of these terms, base and block whose journal has these lines
pub record IsReplayOf (terms : List Term) (base : View) (block : List (Request Id)) (lines : List Line) (book : Run) : Type 0 where
  pub terms_are : book.terms ≡ terms
  pub base_is : book.base ≡ base
  pub block_is : book.block ≡ block
  pub journal : HasLines terms book.history lines
