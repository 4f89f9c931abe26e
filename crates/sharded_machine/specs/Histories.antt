-- Histories in sixteen shards. The deltas lie in sixteen parts, and a read or a check finds each
-- part that it touches after a beginning of the history of its own, so an entry keeps the lengths
-- of these beginnings. All other events are one step, as in one shard.
use Rattle.std.specs.Prelude.{◌≡◌, ◌≢◌, ℕ, zero, suc, ◌+◌, ◌≤◌, ◌&&◌, ◌==◌, if◌then◌else◌, List, [], ◌∷◌, ◌++◌, length, map, take, drop, All, Option, Some, None, slice_get}
use Rattle.std.specs.List.{list_any}
use Rattle.reads.specs.Reads.{View, Read, Answer, says, covers}
use Rattle.incarnations.specs.declared.state.Pass.{Pass}
use Rattle.incarnations.specs.declared.state.Event.{Event}
use Rattle.incarnations.specs.declared.state.Event.TheVariants.{Read as ReadOf, Check}
use Rattle.incarnations.specs.declared.state.Reply.{Reply}
use Rattle.incarnations.specs.declared.state.Reply.TheVariants.{Answered, Blocked, Passed, Aborted, NotYet}
use Rattle.incarnations.specs.declared.state.Entry.{Entry}
use Rattle.incarnations.specs.Slots.{Noted, Slot}
use Rattle.incarnations.specs.Statuses.{execution_refusal, executed_refusal}
use Rattle.validate.specs.declared.checks.Verdict.{Verdict}
use Rattle.validate.specs.declared.checks.Verdict.TheVariants as verdict
use Rattle.validate.specs.Below.{slot_at, view_at, touching}
use Rattle.slots.specs.Slots.{status_of}
use Rattle.shards.specs.Shards.{shards_of, cut, part_of_answer, merged}
use Rattle.block_machine.specs.Machine.{State, Unless, IsAllowed}
use Rattle.block_machine.specs.Serial.{Setting, IsSoundEntry, state_of}

-- An answered event, with the lengths that it keeps: of a read or a check first that of its
-- opening, then one for each shard that it touches; none of any other event.
pub record ShardedEntry : Type 0 where
  pub entry : Entry
  pub lengths : List ℕ

abbrev pub entries : List ShardedEntry → List Entry
entries history = map (λ e. e.entry) history

-- where the beginning of this length leaves the machine
abbrev pub state_at : Setting → List ShardedEntry → ℕ → State
state_at m history n = state_of m (entries (take n history))

-- THE LENGTHS

-- the length of the opening comes first
abbrev pub opening_of : List ℕ → ℕ
opening_of [] = 0
opening_of (n ∷ ns) = n

-- then those of the beginnings that are kept for the shards
abbrev pub found_lengths : List ℕ → List ℕ
found_lengths [] = []
found_lengths (n ∷ ns) = ns

-- none is less than the one before, and none is more than the whole
abbrev pub RiseWithin : ℕ → List ℕ → ℕ → Type 0
RiseWithin low [] whole = low ≤ whole
RiseWithin low (n ∷ ns) whole = (low ≤ n) × RiseWithin n ns whole

-- the lengths of an opening, which has all of the worker's entries, and then of a beginning for
-- each of the shards, none shorter than the one before
pub record KeepsLengths (history : List ShardedEntry) (worker : ℕ) (shards lengths : List ℕ) : Type 0 where
  pub one_each : length lengths ≡ length shards + 1
  pub rise : RiseWithin 0 lengths (length history)
  pub own : All (λ (e : ShardedEntry). e.entry.worker ≢ worker) (drop (opening_of lengths) history)

-- THE PARTS FOUND

-- what a slot publishes in a shard
abbrev pub cut_slot : ℕ → Slot → Slot
cut_slot k x = record x { delta = cut k x.delta }

-- a shard, and the slots, cut to it, after the beginning that is kept for it
pub record Part : Type 0 where
  pub shard : ℕ
  pub slots : List Slot

-- the parts of these shards, each after the beginning of its length
unfoldable pub parts_found : Setting → List ShardedEntry → (shards lengths : List ℕ) → List Part
parts_found m history (k ∷ ks) (n ∷ ns) = record { shard = k; slots = map (cut_slot k) (state_at m history n).slots } ∷ parts_found m history ks ns
parts_found m history (k ∷ ks) [] = []
parts_found m history [] ns = []

-- the answer that is made of the parts found
abbrev pub answer_found : View → List Part → ℕ → Read → Answer
answer_found base parts i read = merged read (map (λ (p : Part). part_of_answer p.shard (says read (view_at base p.slots i))) parts)

-- the touching lists found, one for each part
abbrev pub lists_found : List Part → ℕ → Read → List (List (ℕ × ℕ))
lists_found parts i read = map (λ (p : Part). touching p.slots i read) parts

-- the greatest request below i that is an estimate after the opening and whose delta, in some part
-- found, covers the read
unfoldable pub blocker_found : (opened : List Slot) → List Part → ℕ → Read → Option ℕ
blocker_found opened parts zero read = None
blocker_found opened parts (suc j) read =
    if (slot_at opened j).estimate && list_any (λ (p : Part). covers (slot_at p.slots j).delta read) parts then Some j else blocker_found opened parts j read

-- WHAT IS NOTED IN PARTS
-- (the touching list in a note of the state is of one shard, and means nothing here)

-- the touching lists that an answered read of this incarnation notes, after the entries before it
abbrev pub lists_noted_by : Setting → (before : List ShardedEntry) → ℕ → ℕ → Event → Reply → List ℕ → List (List (List (ℕ × ℕ)))
lists_noted_by m before i n (ReadOf j k read) (Answered answer) lengths =
    if (j == i) && (k == n) then lists_found (parts_found m before (shards_of read) (found_lengths lengths)) i read ∷ [] else []
lists_noted_by m before i n event reply lengths = []

-- the touching lists that an incarnation notes in more entries
unfoldable pub lists_noted_after : Setting → (before : List ShardedEntry) → ℕ → ℕ → List ShardedEntry → List (List (List (ℕ × ℕ)))
lists_noted_after m before i n [] = []
lists_noted_after m before i n (e ∷ es) =
    lists_noted_by m before i n e.entry.event e.entry.reply e.lengths ++ lists_noted_after m (before ++ e ∷ []) i n es

-- the touching lists that an incarnation has noted: for each noted read, in order, one list for
-- each shard that it touches
abbrev pub lists_noted : Setting → List ShardedEntry → ℕ → ℕ → List (List (List (ℕ × ℕ)))
lists_noted m history i n = lists_noted_after m [] i n history

-- WHERE AN EVENT IS LAWFUL, AND ITS REPLY

-- the pass that stands, if the opening had one of the same start and next read
abbrev pub standing_pass : (now opened : Option Pass) → Option Pass
standing_pass (Some pass) (Some was) = if (pass.start == was.start) && (pass.next == was.next) then Some pass else None
standing_pass (Some pass) None = None
standing_pass None opened = None

-- the note that is checked, if the event is not refused
abbrev pub checked_note : Option Reply → List Noted → Option Pass → Option Noted
checked_note None notes (Some pass) = slice_get notes pass.next
checked_note None notes None = None
checked_note (Some refusal) notes pass = None

-- the shards that a check touches: those of the noted read, if there is one
abbrev pub shards_checked : Option Noted → List ℕ
shards_checked (Some note) = shards_of note.read
shards_checked None = []

-- blocked exactly if some lower estimate covers the read in a part found, and else answered from
-- these parts
abbrev pub ReadFound : View → (opened : List Slot) → List Part → ℕ → Read → Reply → Type 0
ReadFound base opened parts i read (Blocked j) = blocker_found opened parts i read ≡ Some j
ReadFound base opened parts i read (Answered answer) = (blocker_found opened parts i read ≡ None) × (answer ≡ answer_found base parts i read)
ReadFound base opened parts i read _ = ⊥

-- each part of the answer that was found is that part of the noted one
abbrev pub SameParts : View → List Part → ℕ → Noted → Type 0
SameParts base [] i note = Unit {0}
SameParts base (p ∷ ps) i note =
    (part_of_answer p.shard note.answer ≡ part_of_answer p.shard (says note.read (view_at base p.slots i))) × SameParts base ps i note

-- one noted read: blocked as for a read; passed only if every part of the answer found is the noted
-- one; aborted only if some part of the touching list differs
abbrev pub NoteFound : View → (opened : List Slot) → List Part → (noted : Option (List (List (ℕ × ℕ)))) → ℕ → Option Noted → Reply → Type 0
NoteFound base opened parts noted i (Some note) (Blocked j) = blocker_found opened parts i note.read ≡ Some j
NoteFound base opened parts noted i (Some note) Passed = (blocker_found opened parts i note.read ≡ None) × SameParts base parts i note
NoteFound base opened parts noted i (Some note) Aborted = (blocker_found opened parts i note.read ≡ None) × (noted ≢ Some (lists_found parts i note.read))
NoteFound base opened parts noted i (Some note) _ = ⊥
NoteFound base opened parts noted i None reply = ⊥

-- the verdict on a noted read by its touching lists alone, with no answer
abbrev pub ListsVerdict : (opened : List Slot) → List Part → (lists : List (List (ℕ × ℕ))) → ℕ → Read → Verdict → Type 0
ListsVerdict opened parts lists i read (verdict.Blocked j) = blocker_found opened parts i read ≡ Some j
ListsVerdict opened parts lists i read verdict.Same = (blocker_found opened parts i read ≡ None) × (lists ≡ lists_found parts i read)
ListsVerdict opened parts lists i read verdict.Changed = (blocker_found opened parts i read ≡ None) × (lists ≢ lists_found parts i read)

-- a pass stands that the opening had, and its next noted read is checked
abbrev pub CheckFound : View → (opened : List Slot) → List Part → (noted : List (List (List (ℕ × ℕ)))) → ℕ → List Noted → Option Pass → Reply → Type 0
CheckFound base opened parts noted i notes None reply = reply ≡ NotYet
CheckFound base opened parts noted i notes (Some pass) reply = NoteFound base opened parts (slice_get noted pass.next) i (slice_get notes pass.next) reply

-- the pass that a check of request i goes on with
abbrev pub pass_checked : Setting → List ShardedEntry → ℕ → List ℕ → Option Pass
pass_checked m history i lengths =
    standing_pass (slot_at (state_of m (entries history)).slots i).pass (slot_at (state_at m history (opening_of lengths)).slots i).pass

-- the shards that a check of request i touches
abbrev pub check_shards : Setting → List ShardedEntry → ℕ → ℕ → List ℕ → List ℕ
check_shards m history i n lengths =
    shards_checked (checked_note
    (executed_refusal (status_of (state_of m (entries history)).slots i) n)
    (slot_at (state_of m (entries history)).slots i).notes (pass_checked m history i lengths))

-- what may be replied to a worker's event after this history, with these lengths
abbrev pub IsAllowedAfter : Setting → List ShardedEntry → ℕ → Event → Reply → List ℕ → Type 0
IsAllowedAfter m history worker (ReadOf i n read) reply lengths =
    KeepsLengths history worker (shards_of read) lengths
    × Unless (execution_refusal (status_of (state_of m (entries history)).slots i) n worker) reply
    (ReadFound m.base (state_at m history (opening_of lengths)).slots (parts_found m history (shards_of read) (found_lengths lengths)) i read reply)
IsAllowedAfter m history worker (Check i n) reply lengths =
    KeepsLengths history worker (check_shards m history i n lengths) lengths
    × Unless (executed_refusal (status_of (state_of m (entries history)).slots i) n) reply
    (CheckFound m.base (state_at m history (opening_of lengths)).slots (parts_found m history (check_shards m history i n lengths) (found_lengths lengths))
    (lists_noted m history i n) i (slot_at (state_of m (entries history)).slots i).notes (pass_checked m history i lengths) reply)
IsAllowedAfter m history worker event reply lengths = (lengths ≡ []) × IsAllowed m.base (state_of m (entries history)) worker event reply

-- a lawful entry after this history
abbrev pub IsLawfulAfter : Setting → List ShardedEntry → ShardedEntry → Type 0
IsLawfulAfter m history e =
    IsAllowedAfter m history e.entry.worker e.entry.event e.entry.reply e.lengths × IsSoundEntry m e.entry.event e.entry.reply

-- each entry is lawful after the entries before it
abbrev pub LawfulAfter : Setting → (before : List ShardedEntry) → List ShardedEntry → Type 0
LawfulAfter m before [] = Unit {0}
LawfulAfter m before (e ∷ es) = IsLawfulAfter m before e × LawfulAfter m (before ++ e ∷ []) es

unfoldable pub IsShardedHistory : Setting → List ShardedEntry → Type 0
IsShardedHistory m history = LawfulAfter m [] history
