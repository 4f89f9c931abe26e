-- Entries of a journal as lines, with terms for the numbers of their reads and counts for answers.
use Rattle.std.specs.Prelude.{◌≡◌, Bool, true, ◌&&◌, List, map}
use Rattle.std.specs.List.{list_all}
use Rattle.std.specs.Option.{option_map}
use Rattle.terms.specs.declared.term.Term.{Term}
use Rattle.datasets.specs.declared.read.GraphPlace.{GraphPlace}
use Rattle.datasets.specs.declared.read.GraphPlace.TheVariants.{Any, Only}
use Rattle.datasets.specs.declared.read.QuadPattern.{QuadPattern}
use Rattle.datasets.specs.declared.read.Read as reading
use Rattle.datasets.specs.declared.read.Read.TheVariants.{Scan, GraphIs, Graphs}
use Rattle.dict.specs.Dictionary.{term_of, is_known}
use Rattle.meaning_laws.specs.Renaming.{option_known}
use Rattle.incarnations.specs.declared.state.Event.{Event}
use Rattle.incarnations.specs.declared.state.Event.TheVariants as event
use Rattle.incarnations.specs.declared.state.Reply.{Reply}
use Rattle.incarnations.specs.declared.state.Reply.TheVariants as reply
use Rattle.incarnations.specs.declared.state.Entry.{Entry}
use Rattle.book.specs.JournalEntry.{count_of}
use Rattle.journal.specs.declared.lines.Line.{Line}
use Rattle.journal.specs.declared.lines.Event as told_event
use Rattle.journal.specs.declared.lines.Event.TheVariants.{Take, Read, Publish, Begin, Check, Commit, GiveUp}
use Rattle.journal.specs.declared.lines.Reply as told_reply
use Rattle.journal.specs.declared.lines.Reply.TheVariants.{Taken, Answered, Blocked, Published, Begun, Passed, Aborted, Committed, Given, Stale, NotYours, NotYet}

-- a read with other terms
module _ {A B : Type 0} (f : A → B) where
  abbrev pub renamed_place : GraphPlace A → GraphPlace B
  renamed_place Any = Any
  renamed_place (Only g) = Only (option_map f g)

  abbrev pub renamed_pattern : QuadPattern A → QuadPattern B
  renamed_pattern p = record {
    subject = option_map f p.subject;
    predicate = option_map f p.predicate;
    object = option_map f p.object;
    graph = renamed_place p.graph;
  }

  abbrev pub renamed_read : reading.Read A → reading.Read B
  renamed_read (Scan p) = Scan (renamed_pattern p)
  renamed_read (GraphIs g) = GraphIs (f g)
  renamed_read Graphs = Graphs

-- whether all terms of a read are among these
module _ {A : Type 0} (known : A → Bool) where
  abbrev pub place_known : GraphPlace A → Bool
  place_known Any = true
  place_known (Only g) = option_known known g

  abbrev pub pattern_known : QuadPattern A → Bool
  pattern_known p = option_known known p.subject && (option_known known p.predicate && (option_known known p.object && place_known p.graph))

  abbrev pub read_known : reading.Read A → Bool
  read_known (Scan p) = pattern_known p
  read_known (GraphIs g) = known g
  read_known Graphs = true

-- an event by the terms of its read, and without the run that it publishes
abbrev pub line_event : List Term → Event → told_event.Event
line_event terms (event.Take i) = Take i
line_event terms (event.Read i n read) = Read i n (renamed_read (term_of terms) read)
line_event terms (event.Publish i n finished) = Publish i n
line_event terms (event.Begin i n) = Begin i n
line_event terms (event.Check i n) = Check i n
line_event terms (event.Commit i) = Commit i
line_event terms (event.GiveUp i n) = GiveUp i n

-- a reply, with the count of an answer
abbrev pub line_reply : Reply → told_reply.Reply
line_reply (reply.Taken n) = Taken n
line_reply (reply.Answered answer) = Answered (count_of answer)
line_reply (reply.Blocked j) = Blocked j
line_reply reply.Published = Published
line_reply reply.Begun = Begun
line_reply reply.Passed = Passed
line_reply reply.Aborted = Aborted
line_reply reply.Committed = Committed
line_reply reply.Given = Given
line_reply reply.Stale = Stale
line_reply reply.NotYours = NotYours
line_reply reply.NotYet = NotYet

-- the line that an entry is printed as
abbrev pub line_of : List Term → Entry → Line
line_of terms e = record { worker = e.worker; event = line_event terms e.event; reply = line_reply e.reply }

-- whether all numbers of an event's read are in the dictionary
abbrev pub event_known : List Term → Event → Bool
event_known terms (event.Read i n read) = read_known (is_known terms) read
event_known terms _ = true

abbrev pub entry_known : List Term → Entry → Bool
entry_known terms e = event_known terms e.event

-- an entry of this line
pub record IsEntryOf (terms : List Term) (line : Line) (e : Entry) : Type 0 where
  pub printed : line_of terms e ≡ line
  pub known : entry_known terms e ≡ true

-- entries of these lines, in their order
pub record HasLines (terms : List Term) (history : List Entry) (lines : List Line) : Type 0 where
  pub printed : map (line_of terms) history ≡ lines
  pub known : list_all (entry_known terms) history ≡ true
