-- The lines that a journal may have.
use Rattle.std.specs.Prelude.{ℕ, ◌≡◌, ◌<◌, ◌^◌, false, List, Option, Some, None}
use Rattle.datasets.specs.declared.read.GraphPlace.{GraphPlace}
use Rattle.datasets.specs.declared.read.GraphPlace.TheVariants.{Any, Only}
use Rattle.datasets.specs.declared.read.QuadPattern.{QuadPattern}
use Rattle.datasets.specs.declared.read.Read.{Read}
use Rattle.datasets.specs.declared.read.Read.TheVariants.{Scan, GraphIs, Graphs}
use Rattle.terms.specs.declared.term.Term.{Term}
use Rattle.canonical_nquads.specs.Tag.{has_mark}
use Rattle.nquads_laws.specs.WellFormed.{IsTerm}
use Rattle.journal.specs.declared.lines.Event.{Event}
use Rattle.journal.specs.declared.lines.Event.TheVariants as event
use Rattle.journal.specs.declared.lines.Reply.{Reply}
use Rattle.journal.specs.declared.lines.Reply.TheVariants as reply
use Rattle.journal.specs.declared.lines.Line.{Line}

-- a term of its form; a written label doesn't begin with the mark of made nodes' labels
abbrev pub IsHeld : List ℕ → Term → Type 0
IsHeld mark t = IsTerm t × (has_mark mark t ≡ false)

abbrev pub IsPlace : List ℕ → Option Term → Type 0
IsPlace mark None = Unit {0}
IsPlace mark (Some t) = IsHeld mark t

abbrev pub IsGraphPlace : List ℕ → GraphPlace Term → Type 0
IsGraphPlace mark Any = Unit {0}
IsGraphPlace mark (Only g) = IsPlace mark g

pub record IsPattern (mark : List ℕ) (p : QuadPattern Term) : Type 0 where
  pub subject : IsPlace mark p.subject
  pub predicate : IsPlace mark p.predicate
  pub object : IsPlace mark p.object
  pub graph : IsGraphPlace mark p.graph

abbrev pub IsRead : List ℕ → Read Term → Type 0
IsRead mark (Scan p) = IsPattern mark p
IsRead mark (GraphIs t) = IsHeld mark t
IsRead mark Graphs = Unit {0}

-- a request has at most four digits, and an incarnation or a count fits 64 bits
abbrev pub IsRequest : ℕ → Type 0
IsRequest r = r < 10000

abbrev pub IsCount : ℕ → Type 0
IsCount n = n < 2 ^ 64

abbrev pub IsEvent : List ℕ → Event → Type 0
IsEvent mark (event.Take r) = IsRequest r
IsEvent mark (event.Read r n q) = IsRequest r × IsCount n × IsRead mark q
IsEvent mark (event.Publish r n) = IsRequest r × IsCount n
IsEvent mark (event.Begin r n) = IsRequest r × IsCount n
IsEvent mark (event.Check r n) = IsRequest r × IsCount n
IsEvent mark (event.Commit r) = IsRequest r
IsEvent mark (event.GiveUp r n) = IsRequest r × IsCount n

abbrev pub IsReply : Reply → Type 0
IsReply (reply.Taken n) = IsCount n
IsReply (reply.Answered n) = IsCount n
IsReply (reply.Blocked r) = IsRequest r
IsReply other = Unit {0}

-- a worker is one of 64
pub record IsLine (mark : List ℕ) (l : Line) : Type 0 where
  pub worker : l.worker < 64
  pub event : IsEvent mark l.event
  pub reply : IsReply l.reply
