-- The text of a journal: a first line, and then a line an entry. The words of a line stand with
-- single spaces between, and LF ends it.
use Rattle.std.specs.Prelude.{ℕ, List, [], ◌∷◌, ◌++◌, Option, Some, None, length, drop, codes}
use Rattle.std.specs.List.{flat_map}
use Rattle.std.specs.Fmt.{decimal}
use Rattle.datasets.specs.declared.read.GraphPlace.{GraphPlace}
use Rattle.datasets.specs.declared.read.GraphPlace.TheVariants.{Any, Only}
use Rattle.datasets.specs.declared.read.Read.{Read}
use Rattle.datasets.specs.declared.read.Read.TheVariants.{Scan, GraphIs, Graphs}
use Rattle.terms.specs.declared.term.Term.{Term}
use Rattle.terms.specs.Canonical.{term_text}
use Rattle.journal.specs.declared.lines.Event.{Event}
use Rattle.journal.specs.declared.lines.Event.TheVariants as event
use Rattle.journal.specs.declared.lines.Reply.{Reply}
use Rattle.journal.specs.declared.lines.Reply.TheVariants as reply
use Rattle.journal.specs.declared.lines.Line.{Line}

-- a number in decimal digits, with those zeros in front for which its digits leave room
abbrev pub padded : List ℕ → ℕ → List ℕ
padded zeros n = drop (length (decimal n)) zeros ++ decimal n

-- two digits, and four
abbrev pub worker_word : ℕ → List ℕ
worker_word n = padded (codes "00") n

abbrev pub request_word : ℕ → List ℕ
request_word n = padded (codes "0000") n

-- a place of a scan, `-` where it is free
abbrev pub place_word : ℕ → Option Term → List ℕ
place_word tag None = codes "-"
place_word tag (Some t) = term_text tag t

abbrev pub graph_word : ℕ → GraphPlace Term → List ℕ
graph_word tag Any = codes "-"
graph_word tag (Only None) = codes "default"
graph_word tag (Only (Some g)) = term_text tag g

abbrev pub read_words : ℕ → Read Term → List (List ℕ)
read_words tag (Scan p) = codes "scan" ∷ place_word tag p.subject ∷ place_word tag p.predicate ∷ place_word tag p.object ∷ graph_word tag p.graph ∷ []
read_words tag (GraphIs t) = codes "is" ∷ term_text tag t ∷ []
read_words tag Graphs = codes "graphs" ∷ []

abbrev pub event_words : ℕ → Event → List (List ℕ)
event_words tag (event.Take r) = codes "take" ∷ request_word r ∷ []
event_words tag (event.Read r n q) = codes "read" ∷ request_word r ∷ decimal n ∷ read_words tag q
event_words tag (event.Publish r n) = codes "publish" ∷ request_word r ∷ decimal n ∷ []
event_words tag (event.Begin r n) = codes "begin" ∷ request_word r ∷ decimal n ∷ []
event_words tag (event.Check r n) = codes "check" ∷ request_word r ∷ decimal n ∷ []
event_words tag (event.Commit r) = codes "commit" ∷ request_word r ∷ []
event_words tag (event.GiveUp r n) = codes "giveup" ∷ request_word r ∷ decimal n ∷ []

abbrev pub reply_words : Reply → List (List ℕ)
reply_words (reply.Taken n) = codes "taken" ∷ decimal n ∷ []
reply_words (reply.Answered n) = codes "answer" ∷ decimal n ∷ []
reply_words (reply.Blocked r) = codes "blocked" ∷ request_word r ∷ []
reply_words reply.Published = codes "published" ∷ []
reply_words reply.Begun = codes "begun" ∷ []
reply_words reply.Passed = codes "passed" ∷ []
reply_words reply.Aborted = codes "aborted" ∷ []
reply_words reply.Committed = codes "committed" ∷ []
reply_words reply.Given = codes "given" ∷ []
reply_words reply.Stale = codes "stale" ∷ []
reply_words reply.NotYours = codes "not-yours" ∷ []
reply_words reply.NotYet = codes "not-yet" ∷ []

-- a word, and the space before it
abbrev pub spaced : List ℕ → List ℕ
spaced word = 32 ∷ word

-- a worker, what it did, `>`, and what it was replied
abbrev pub line_body : ℕ → Line → List ℕ
line_body tag l = worker_word l.worker ++ flat_map spaced (event_words tag l.event ++ codes ">" ∷ reply_words l.reply)

abbrev pub line_text : ℕ → Line → List ℕ
line_text tag l = line_body tag l ++ 10 ∷ []

abbrev pub first_line : List ℕ
first_line = codes "sparql-block journal 1" ++ 10 ∷ []

-- with the base's tag in the labels of made nodes
abbrev pub journal_text : ℕ → List Line → List ℕ
journal_text tag lines = first_line ++ flat_map (line_text tag) lines
