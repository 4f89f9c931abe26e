-- Entries of a journal in little memory.
use Rattle.std.specs.Prelude.{ℕ, Bool, true, false}
use Rattle.quad_lists.specs.Known.{quad_of}
use Rattle.reads.specs.Presence.{scan_for}
use Rattle.incarnations.specs.declared.state.Event.TheVariants.{Take, Begin, Check, Commit}
use Rattle.incarnations.specs.declared.state.Reply.TheVariants as told
use Rattle.book.specs.declared.journal_entry.Kept.{Kept}
use Rattle.book.specs.declared.journal_entry.Kept.TheVariants.{Answered, Other}
use Rattle.book.specs.declared.journal_entry.JournalEntry.{JournalEntry}
use Rattle.book.specs.declared.packed_entry.Form.{Form}
use Rattle.book.specs.declared.packed_entry.Form.TheVariants as form
use Rattle.book.specs.declared.packed_entry.Shown.{Shown}
use Rattle.book.specs.declared.packed_entry.Shown.TheVariants as shown

-- how many quads the answer to the question for one has
abbrev pub count_if : Bool → ℕ
count_if true = 1
count_if false = 0

-- an answer to the question whether a quad is there, a step of a request that was not refused, or
-- any entry
abbrev pub entry_of : Form → JournalEntry
entry_of (form.Presence worker request incarnation quad there) =
    record { worker = worker; kept = Answered request incarnation (scan_for (quad_of quad)) (count_if there) }
entry_of (form.Taken worker request incarnation) = record { worker = worker; kept = Other (Take request) (told.Taken incarnation) }
entry_of (form.Begun worker request incarnation) = record { worker = worker; kept = Other (Begin request incarnation) told.Begun }
entry_of (form.Passed worker request incarnation) = record { worker = worker; kept = Other (Check request incarnation) told.Passed }
entry_of (form.Committed worker request) = record { worker = worker; kept = Other (Commit request) told.Committed }
entry_of (form.Whole entry) = entry.value

-- the request that an entry in little memory is of, and its incarnation, or 0 where there is none
abbrev pub place_of : Form → ℕ × ℕ
place_of (form.Presence worker request incarnation quad there) = (request, incarnation)
place_of (form.Taken worker request incarnation) = (request, incarnation)
place_of (form.Begun worker request incarnation) = (request, incarnation)
place_of (form.Passed worker request incarnation) = (request, incarnation)
place_of (form.Committed worker request) = (request, 0)
place_of (form.Whole entry) = (0, 0)

-- what is shown of an entry
abbrev pub kept_shown : Shown → Kept
kept_shown (shown.Answered request incarnation read count) = Answered request incarnation read count
kept_shown (shown.Other event reply) = Other event reply
kept_shown (shown.Whole kept) = kept.now
