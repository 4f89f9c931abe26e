-- What a journal keeps of each answered event, and the history that it stands for. A read has one
-- answer where the machine stands, and a run is published only with the transcript that its request
-- has noted: so neither is kept.
use Rattle.std.specs.Prelude.{◌≡◌, ℕ, true, false, List, [], ◌∷◌, length, Some}
use Rattle.datasets.specs.Dataset.{Quads, Is, Names}
use Rattle.reads.specs.Reads.{View, Answer, says}
use Rattle.incarnations.specs.declared.state.Event.{Event}
use Rattle.incarnations.specs.declared.state.Event.TheVariants.{Read, Publish}
use Rattle.incarnations.specs.declared.state.Reply.{Reply}
use Rattle.incarnations.specs.declared.state.Reply.TheVariants as told
use Rattle.incarnations.specs.declared.state.Entry.{Entry}
use Rattle.incarnations.specs.Slots.{transcript_of}
use Rattle.validate.specs.Below.{slot_at, view_at}
use Rattle.block_machine.specs.Machine.{State, after}
use Rattle.book.specs.declared.journal_entry.Kept.{Kept}
use Rattle.book.specs.declared.journal_entry.Kept.TheVariants.{Answered, Published, Other}
use Rattle.book.specs.declared.journal_entry.JournalEntry.{JournalEntry}

-- how many quads or names an answer has, or 0 or 1 for whether a graph is there
abbrev pub count_of : Answer → ℕ
count_of (Quads quads) = length quads
count_of (Is true) = 1
count_of (Is false) = 0
count_of (Names names) = length names

-- of an answer its count, of a published run its change and its reply, and else all
abbrev pub kept_of : Event → Reply → Kept
kept_of (Read i n read) (told.Answered answer) = Answered i n read (count_of answer)
kept_of (Publish i n (Some finished)) told.Published = Published i n finished.delta finished.reply
kept_of event reply = Other event reply

abbrev pub journal_entry_of : Entry → JournalEntry
journal_entry_of e = record { worker = e.worker; kept = kept_of e.event e.reply }

-- before its step: a finished run, should it be published, is kept already
abbrev pub IsRoomFor : Event → JournalEntry → Type 0
IsRoomFor (Publish i n (Some finished)) room = room.kept ≡ Published i n finished.delta finished.reply
IsRoomFor event room = Unit {0}

-- the event, where the machine stands so: what is published has read what is noted
abbrev pub event_in : State → Kept → Event
event_in s (Answered i n read count) = Read i n read
event_in s (Published i n delta reply) =
    Publish i n (Some (record { transcript = transcript_of (slot_at s.slots i).notes; delta = delta; reply = reply }))
event_in s (Other event reply) = event

-- its reply: a read is answered from the view of its request
abbrev pub reply_in : View → State → Kept → Reply
reply_in base s (Answered i n read count) = told.Answered (says read (view_at base s.slots i))
reply_in base s (Published i n delta reply) = told.Published
reply_in base s (Other event reply) = reply

abbrev pub entry_in : View → State → JournalEntry → Entry
entry_in base s e = record { worker = e.worker; event = event_in s e.kept; reply = reply_in base s e.kept }

-- the history that a journal stands for, from where the machine stands
unfoldable pub history_from : View → State → List JournalEntry → List Entry
history_from base s [] = []
history_from base s (e ∷ es) =
    entry_in base s e ∷ history_from base (after s e.worker (event_in s e.kept) (reply_in base s e.kept)) es
