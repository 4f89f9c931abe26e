-- What a call on a shared book says of the pass that made it.
use Rattle.std.specs.Prelude.{◌≡◌, ℕ, true, List, [], ◌∷◌, ◌++◌, Some, Result, Ok, Err, slice_get}
use Rattle.datasets.specs.declared.id.Id.{Id}
use Rattle.dict.specs.Dictionary.{is_known, numbers}
use Rattle.meaning.specs.Run.{Request, answer_of}
use Rattle.delta.specs.Sound.{IsSoundFor}
use Rattle.delta.specs.declared.finished.Finished.{Finished}
use Rattle.incarnations.specs.declared.state.Event.{Event}
use Rattle.incarnations.specs.declared.state.Reply.{Reply}
use Rattle.incarnations.specs.declared.state.Entry.{Entry}
use Rattle.block_machine.specs.Machine.{IsAllowed}
use Rattle.block_machine.specs.Serial.{IsHistory}
use Rattle.book.specs.Run.{Run, state_of, setting_of, kept}
use Rattle.blocklock.specs.History.{History, of_worker, AreBelow}
use Rattle.blocklock.specs.Passes.{PassView, Watches}
use Rattle.shared.specs.declared.kept.Subject.{Subject}
use Rattle.shared.specs.declared.refused.Refused.{Refused}
use Rattle.shared.specs.declared.refused.Refused.TheVariants.{Busy, OutOfMemory}

-- a worker's pass as contracts see it
abbrev pub Viewed : Type 0
Viewed = PassView Subject Entry

-- the worker whose entry it is
abbrev pub owner : Entry → ℕ
owner e = e.worker

-- a book's subject and journal
abbrev pub history_of : Run → History Subject Entry
history_of run = record { subject = record { terms = run.terms; base = run.base; block = run.block }; journal = run.history }

-- the run of a subject with a journal
abbrev pub run_of : Subject → List Entry → Run
run_of s journal = record { terms = s.terms; base = s.base; block = s.block; history = journal }

-- a finished run is sound for the request at its place
abbrev pub IsSoundAt : Subject → ℕ → Finished → Type 0
IsSoundAt s i finished =
    (r : Request Id) → slice_get s.block i ≡ Some r
    → IsSoundFor (is_known s.terms) (answer_of (numbers s.terms) i r) finished

-- an entry of a worker
abbrev pub entry : ℕ → Event → Reply → Entry
entry worker event reply = record { worker = worker; event = kept event reply; reply = reply }

-- The pass has seen a history that begins with what it had seen, ends with this event and its
-- reply, and has no other new entry of its worker, nor of a worker who has no pass. The reply is
-- lawful where the event was made, and the history throughout.
pub record Answers (old new : Viewed) (event : Event) (reply : Reply) : Type 0 where
  pub sees : new ≡ record old { seen = new.seen }
  pub between : List Entry
  pub ends : new.seen ≡ (old.seen ++ between) ++ entry old.worker event reply ∷ []
  pub none_else : of_worker owner old.worker between ≡ []
  pub workers : AreBelow owner old.table.seats between
  pub allowed : IsAllowed old.subject.base (state_of (run_of old.subject (old.seen ++ between))) old.worker event reply
  pub lawful : IsHistory (setting_of (run_of old.subject new.seen)) new.seen

-- A call was not made, since a growth was refused: the pass has at most seen more, with no new
-- entry of its worker or of one who has no pass, and what it has seen is a history if what it had seen is one.
pub record Unmade (old new : Viewed) : Type 0 where
  pub watches : Watches owner old new
  pub lawful : IsHistory (setting_of (run_of old.subject old.seen)) old.seen → IsHistory (setting_of (run_of old.subject new.seen)) new.seen

-- a call that may wait: answered, or a growth was refused
abbrev pub Made : {E : Type 0} → Viewed → Viewed → Event → Result Reply E → Type 0
Made old new event (Ok reply) = Answers old new event reply
Made old new event (Err e) = Unmade old new

-- a call that does not wait: the same, or the book was out and the pass is as it was
abbrev pub Tried : Viewed → Viewed → Event → Result Reply Refused → Type 0
Tried old new event (Ok reply) = Answers old new event reply
Tried old new event (Err Busy) = new ≡ old
Tried old new event (Err OutOfMemory) = Unmade old new

-- the pass holds this book, and has seen its journal
pub record Has (p : Viewed) (book : Run) : Type 0 where
  pub holds : p.holds ≡ true
  pub subject : (history_of book).subject ≡ p.subject
  pub journal : p.seen ≡ book.history
