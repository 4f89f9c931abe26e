-- The machine: what each event may be answered, and what it changes.
use Rattle.std.specs.Prelude.{◌≡◌, ◌≢◌, ℕ, zero, suc, ◌+◌, ◌^◌, ◌<◌, Bool, true, false, ◌&&◌, ◌==◌, if◌then◌else◌, nat_le, List, [], ◌∷◌, length, replicate, Option, Some, None, slice_get, slice_set}
use Rattle.reads.specs.Reads.{View, Read, says}
use Rattle.delta.specs.declared.finished.Finished.{Finished}
use Rattle.incarnations.specs.declared.state.Status.{Status}
use Rattle.incarnations.specs.declared.state.Status.TheVariants.{Ready, Executing, Executed, Committed as HasCommitted}
use Rattle.incarnations.specs.declared.state.Pass.{Pass}
use Rattle.incarnations.specs.declared.state.Event.{Event}
use Rattle.incarnations.specs.declared.state.Event.TheVariants.{Take, Read as ReadOf, Publish, Begin, Check, Commit, GiveUp}
use Rattle.incarnations.specs.declared.state.Reply.{Reply}
use Rattle.incarnations.specs.declared.state.Reply.TheVariants.{Taken, Answered, Blocked, Published, Begun, Passed, Aborted, Committed, Given, Stale, NotYet}
use Rattle.incarnations.specs.declared.state.Entry.{Entry}
use Rattle.incarnations.specs.Slots.{Noted, Slot, fresh_slot, transcript_of, taken, with_note, keeps_delta, published, begun, passed, aborted, given, committed}
use Rattle.incarnations.specs.Statuses.{is_closed, is_executed, execution_refusal, executed_refusal}
use Rattle.validate.specs.declared.checks.Verdict.{Verdict}
use Rattle.validate.specs.declared.checks.Verdict.TheVariants as verdict
use Rattle.validate.specs.Below.{slot_at, view_at, blocker, touching}
use Rattle.validate.specs.Verdicts.{NoteVerdict}
use Rattle.slots.specs.Slots.{status_of}

-- The machine's state: a slot for each request, the clock, and the front, which is the number of
-- commits.
pub record State : Type 0 where
  pub slots : List Slot
  pub clock : ℕ
  pub front : ℕ

-- a block of this many requests before its first event
abbrev pub fresh : ℕ → State
fresh size = record { slots = replicate size fresh_slot; clock = 0; front = 0 }

-- whether no request below i has changed after this moment of the clock
unfoldable pub is_current : List Slot → ℕ → ℕ → Bool
is_current slots zero moment = true
is_current slots (suc j) moment = nat_le (slot_at slots j).changed moment && is_current slots j moment

-- the pass that stands, if any, has a next note
abbrev pub HasNext : State → ℕ → Type 0
HasNext s i = (pass : Pass) → (slot_at s.slots i).pass ≡ Some pass → pass.next < length (slot_at s.slots i).notes

-- the number of a status
abbrev pub incarnation_of : Status → ℕ
incarnation_of (Ready n) = n
incarnation_of (Executing n by) = n
incarnation_of (Executed n) = n
incarnation_of (HasCommitted n) = n

-- the clock and each incarnation can go up by one
pub record HasRoom (s : State) : Type 0 where
  pub clock : s.clock + 1 < 2 ^ 64
  pub slots : (i : ℕ) (status : Status) → status_of s.slots i ≡ Some status → incarnation_of status + 1 < 2 ^ 64

-- A touching list names its answer: if it is now as it was noted, so is the answer.
abbrev pub NamesAnswer : View → List Slot → ℕ → Noted → Type 0
NamesAnswer base slots i note = note.touching ≡ touching slots i note.read → note.answer ≡ says note.read (view_at base slots i)

-- the next note's list names its answer
abbrev pub NextNamesAnswer : View → State → ℕ → Type 0
NextNamesAnswer base s i =
    (pass : Pass) (note : Noted) → (slot_at s.slots i).pass ≡ Some pass → slice_get (slot_at s.slots i).notes pass.next ≡ Some note
    → NamesAnswer base s.slots i note

-- what a step needs of the state: room, a next note for each pass, and that its list names its
-- answer
pub record IsReady (base : View) (s : State) : Type 0 where
  pub room : HasRoom s
  pub next : (i : ℕ) → HasNext s i
  pub names : (i : ℕ) → NextNamesAnswer base s i

-- WHERE AN EVENT IS LAWFUL, AND ITS REPLY

-- the refusal if there is one, and else a reply of the row
abbrev pub Unless : Option Reply → Reply → Type 0 → Type 0
Unless (Some refusal) reply Row = reply ≡ refusal
Unless None reply Row = Row

abbrev pub TakeReply : Option Status → Reply → Type 0
TakeReply (Some (Ready n)) reply = reply ≡ Taken n
TakeReply (Some (Executing n by)) reply = reply ≡ Stale
TakeReply (Some (Executed n)) reply = reply ≡ Stale
TakeReply (Some (HasCommitted n)) reply = reply ≡ Stale
TakeReply None reply = reply ≡ Stale

-- blocked by the greatest lower estimate that covers the read, and else answered from view(i)
abbrev pub ReadReply : View → List Slot → ℕ → Read → Reply → Type 0
ReadReply base slots i read (Blocked j) = blocker slots i read ≡ Some j
ReadReply base slots i read (Answered answer) = (blocker slots i read ≡ None) × (answer ≡ says read (view_at base slots i))
ReadReply base slots i read _ = ⊥

-- published where the transcript is the notes
abbrev pub PublishReply : List Noted → Option Finished → Reply → Type 0
PublishReply notes (Some finished) Published = finished.transcript ≡ transcript_of notes
PublishReply notes (Some finished) NotYet = finished.transcript ≢ transcript_of notes
PublishReply notes (Some finished) _ = ⊥
PublishReply notes None reply = reply ≡ NotYet

-- one noted read: blocked as for a read; passed only if the answer is the same now; aborted only if
-- the touching list differs
abbrev pub NoteReply : View → List Slot → ℕ → Option Noted → Reply → Type 0
NoteReply base slots i (Some note) (Blocked j) = blocker slots i note.read ≡ Some j
NoteReply base slots i (Some note) Passed = (blocker slots i note.read ≡ None) × (note.answer ≡ says note.read (view_at base slots i))
NoteReply base slots i (Some note) Aborted = (blocker slots i note.read ≡ None) × (note.touching ≢ touching slots i note.read)
NoteReply base slots i (Some note) _ = ⊥
NoteReply base slots i None reply = ⊥

-- the reply to a check
abbrev pub verdict_reply : Verdict → Reply
verdict_reply verdict.Same = Passed
verdict_reply verdict.Changed = Aborted
verdict_reply (verdict.Blocked j) = Blocked j

-- the one of the two replies that is wanted, where both are lawful
abbrev pub wanted_reply : Bool → Reply
wanted_reply true = Passed
wanted_reply false = Aborted

-- the verdict by answers that a reply tells
abbrev pub TellsVerdict : View → List Slot → ℕ → Noted → Reply → Type 0
TellsVerdict base slots i note (Blocked j) = NoteVerdict base slots i note (verdict.Blocked j)
TellsVerdict base slots i note Passed = NoteVerdict base slots i note verdict.Same
TellsVerdict base slots i note Aborted = NoteVerdict base slots i note verdict.Changed
TellsVerdict base slots i note _ = ⊥

-- the reply tells the verdict on the next note, where the event is lawful
abbrev pub CheckVerdict : View → State → ℕ → ℕ → Reply → Type 0
CheckVerdict base s i n reply =
    (pass : Pass) (note : Noted) → status_of s.slots i ≡ Some (Executed n) → (slot_at s.slots i).pass ≡ Some pass
    → slice_get (slot_at s.slots i).notes pass.next ≡ Some note → TellsVerdict base s.slots i note reply

-- a pass stands, and the next noted read is checked
abbrev pub CheckReply : View → List Slot → ℕ → List Noted → Option Pass → Reply → Type 0
CheckReply base slots i notes None reply = reply ≡ NotYet
CheckReply base slots i notes (Some pass) reply = NoteReply base slots i (slice_get notes pass.next) reply

-- whether a stamp stands, and no lower request has changed since
abbrev pub is_stamped : List Slot → ℕ → Option ℕ → Bool
is_stamped slots i None = false
is_stamped slots i (Some stamp) = is_current slots i stamp

-- whether the request is the front, executed, and stamped
abbrev pub can_commit : State → ℕ → Bool
can_commit s i = (i == s.front) && (is_executed (slot_at s.slots i).status && is_stamped s.slots i (slot_at s.slots i).stamp)

abbrev pub commit_reply : Bool → Bool → Reply
commit_reply true can = Stale
commit_reply false true = Committed
commit_reply false false = NotYet

-- what the machine may reply to a worker's event in this state
abbrev pub IsAllowed : View → State → ℕ → Event → Reply → Type 0
IsAllowed base s worker (Take i) reply = TakeReply (status_of s.slots i) reply
IsAllowed base s worker (ReadOf i n read) reply =
    Unless (execution_refusal (status_of s.slots i) n worker) reply (ReadReply base s.slots i read reply)
IsAllowed base s worker (Publish i n finished) reply =
    Unless (execution_refusal (status_of s.slots i) n worker) reply (PublishReply (slot_at s.slots i).notes finished reply)
IsAllowed base s worker (Begin i n) reply =
    Unless (executed_refusal (status_of s.slots i) n) reply (reply ≡ Begun)
IsAllowed base s worker (Check i n) reply =
    Unless (executed_refusal (status_of s.slots i) n) reply
    (CheckReply base s.slots i (slot_at s.slots i).notes (slot_at s.slots i).pass reply)
IsAllowed base s worker (Commit i) reply = reply ≡ commit_reply (is_closed (status_of s.slots i)) (can_commit s i)
IsAllowed base s worker (GiveUp i n) reply =
    Unless (execution_refusal (status_of s.slots i) n worker) reply (reply ≡ Given)

-- WHAT AN ANSWERED EVENT CHANGES

abbrev pub with_slot : State → ℕ → Slot → State
with_slot s i x = record s { slots = slice_set s.slots i x }

-- the state after an answered event; a refusal and `blocked` change nothing
abbrev pub after : State → ℕ → Event → Reply → State
after s worker (Take i) (Taken n) = with_slot s i (taken (slot_at s.slots i) n worker)
after s worker (ReadOf i n read) (Answered answer) =
    with_slot s i (with_note (slot_at s.slots i) (record { read = read; answer = answer; touching = touching s.slots i read }))
after s worker (Publish i n (Some finished)) Published =
    record {
      slots = slice_set s.slots i (published (slot_at s.slots i) n finished s.clock);
      clock = if keeps_delta (slot_at s.slots i) finished then s.clock else s.clock + 1;
      front = s.front;
    }
after s worker (Begin i n) Begun = with_slot s i (begun (slot_at s.slots i) (slot_at s.slots i).notes s.clock)
after s worker (Check i n) Passed = with_slot s i (passed (slot_at s.slots i) (slot_at s.slots i).pass)
after s worker (Check i n) Aborted = with_slot s i (aborted (slot_at s.slots i) n)
after s worker (Commit i) Committed =
    record {
      slots = slice_set s.slots i (committed (slot_at s.slots i) (slot_at s.slots i).status);
      clock = s.clock;
      front = s.front + 1;
    }
after s worker (GiveUp i n) Given = with_slot s i (given (slot_at s.slots i) n)
after s worker event reply = s

-- one step of the machine
abbrev pub Step : View → State → Entry → State → Type 0
Step base old e new = IsAllowed base old e.worker e.event e.reply × (new ≡ after old e.worker e.event e.reply)

-- where a history leads
unfoldable pub state_after : State → List Entry → State
state_after s [] = s
state_after s (e ∷ es) = state_after (after s e.worker e.event e.reply) es
