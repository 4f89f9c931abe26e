-- One line of a journal as the next event of a book.
use Rattle.std.specs.Prelude.{◌≡◌, ◌⊎◌, ℕ, Bool, true, false, [], ◌∷◌, ◌++◌, Option, Some, None, slice_get}
use Rattle.datasets.specs.declared.id.Id.{Id}
use Rattle.dict.specs.Dictionary.{is_known, numbers}
use Rattle.meaning.specs.Run.{Request, answer_of}
use Rattle.delta.specs.Sound.{IsSoundFor}
use Rattle.delta.specs.declared.finished.Finished.{Finished}
use Rattle.incarnations.specs.declared.state.Event.{Event}
use Rattle.incarnations.specs.declared.state.Event.TheVariants as event
use Rattle.incarnations.specs.declared.state.Reply.{Reply}
use Rattle.incarnations.specs.declared.state.Entry.{Entry}
use Rattle.block_machine.specs.Serial.{IsLawful}
use Rattle.book.specs.Run.{Run, setting_of, state_of}
use Rattle.journal.specs.declared.lines.Line.{Line}
use Rattle.journal.specs.declared.lines.Event as told_event
use Rattle.journal.specs.declared.lines.Event.TheVariants.{Take, Read, Publish, Begin, Check, Commit, GiveUp}
use Rattle.journal.specs.declared.lines.Reply as told_reply
use Rattle.journal.specs.declared.lines.Reply.TheVariants.{Passed}
use Rattle.replay.specs.Lines.{line_event, event_known, IsEntryOf}
use Rattle.replay.specs.Replays.{IsOfOtherNotes}

-- the event of a line that tells all of it, and that may be replied one thing alone
abbrev pub whole_event : told_event.Event → Option Event
whole_event (Take i) = Some (event.Take i)
whole_event (Read i n read) = None
whole_event (Publish i n) = None
whole_event (Begin i n) = Some (event.Begin i n)
whole_event (Check i n) = None
whole_event (Commit i) = Some (event.Commit i)
whole_event (GiveUp i n) = Some (event.GiveUp i n)

abbrev pub tells_pass : told_reply.Reply → Bool
tells_pass Passed = true
tells_pass reply = false

-- the run with one more entry
abbrev pub with_entry : Run → Entry → Run
with_entry run e = record run { history = run.history ++ e ∷ [] }

-- a lawful entry of the line has this reply
abbrev pub OnlyReply : Run → Line → Reply → Type 0
OnlyReply run line reply = (e : Entry) → IsEntryOf run.terms line e → IsLawful (setting_of run) (state_of run) e → e.reply ≡ reply

-- The event of the line was the next one, with this reply: the journal has its entry at its end. A
-- lawful entry of the line has this reply, or the line is a publication of a run that is not found.
pub record Follows (old : Run) (line : Line) (reply : Reply) (new : Run) : Type 0 where
  pub event : Event
  pub printed : line_event old.terms event ≡ line.event
  pub known : event_known old.terms event ≡ true
  pub entry : new ≡ with_entry old (record { worker = line.worker; event = event; reply = reply })
  pub only : OnlyReply old line reply ⊎ IsOfOtherNotes old line

-- the journal has an entry of the line at its end
pub record GoesOnBy (old : Run) (line : Line) (new : Run) : Type 0 where
  pub next : Entry
  pub is : IsEntryOf old.terms line next
  pub entry : new ≡ with_entry old next

-- a finished run of the request at this place of the block is sound
abbrev pub IsSoundAt : Run → ℕ → Finished → Type 0
IsSoundAt run i finished =
    (r : Request Id) → slice_get run.block i ≡ Some r
    → IsSoundFor (is_known run.terms) (answer_of (numbers run.terms) i r) finished
