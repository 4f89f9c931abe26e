-- A line, read from left to right.
use Rattle.std.specs.Prelude.{ℕ, nat_eq, List, Option, Some, None, codes, if◌then◌else◌}
use Rattle.std.specs.Cmp.Lexicographic.{pointwise}
use Rattle.std.specs.Option.{option_map_or}
use Rattle.std.specs.Str.{is_utf8}
use Rattle.iris.specs.Bracketed.{◌>>=◌}
use Rattle.journal.specs.declared.lines.Event.{Event}
use Rattle.journal.specs.declared.lines.Event.TheVariants as event
use Rattle.journal.specs.declared.lines.Reply.{Reply}
use Rattle.journal.specs.declared.lines.Reply.TheVariants as reply
use Rattle.journal.specs.declared.lines.Line.{Line}
use Rattle.journal.specs.Words.{word, behind, number_of, number_below}
use Rattle.journal.specs.ReadTerms.{read_at}

-- an event of a request alone, by its word
abbrev pub event_of : List ℕ → ℕ → Option Event
event_of verb r =
    if pointwise nat_eq verb (codes "take") then Some (event.Take r)
    else if pointwise nat_eq verb (codes "commit") then Some (event.Commit r)
    else None

-- an event of a request and its incarnation
abbrev pub numbered_event_of : List ℕ → ℕ → ℕ → Option Event
numbered_event_of verb r n =
    if pointwise nat_eq verb (codes "publish") then Some (event.Publish r n)
    else if pointwise nat_eq verb (codes "begin") then Some (event.Begin r n)
    else if pointwise nat_eq verb (codes "check") then Some (event.Check r n)
    else if pointwise nat_eq verb (codes "giveup") then Some (event.GiveUp r n)
    else None

abbrev pub read_event_at : List ℕ → ℕ → ℕ → List ℕ → Option (Event × List ℕ)
read_event_at mark r n text = read_at mark text >>= λ q. Some (event.Read r n q.0, q.1)

abbrev pub numbered_event_at : List ℕ → List ℕ → ℕ → List ℕ → Option (Event × List ℕ)
numbered_event_at mark verb r text = do
  n ← number_of (word text)
  option_map_or (λ e. Some (e, behind text)) (numbered_event_of verb r n) (read_event_at mark r n (behind text))

-- an event, and what follows the space behind it
unfoldable pub event_at : List ℕ → List ℕ → Option (Event × List ℕ)
event_at mark text = do
  r ← number_below 10000 (word (behind text))
  option_map_or (λ e. Some (e, behind (behind text))) (event_of (word text) r) (numbered_event_at mark (word text) r (behind (behind text)))

-- a reply of one word
abbrev pub reply_of : List ℕ → Option Reply
reply_of text =
    if pointwise nat_eq text (codes "published") then Some reply.Published
    else if pointwise nat_eq text (codes "begun") then Some reply.Begun
    else if pointwise nat_eq text (codes "passed") then Some reply.Passed
    else if pointwise nat_eq text (codes "aborted") then Some reply.Aborted
    else if pointwise nat_eq text (codes "committed") then Some reply.Committed
    else if pointwise nat_eq text (codes "given") then Some reply.Given
    else if pointwise nat_eq text (codes "stale") then Some reply.Stale
    else if pointwise nat_eq text (codes "not-yours") then Some reply.NotYours
    else if pointwise nat_eq text (codes "not-yet") then Some reply.NotYet
    else None

-- a reply with a number
abbrev pub numbered_reply_of : List ℕ → List ℕ → Option Reply
numbered_reply_of text digits =
    if pointwise nat_eq text (codes "taken") then (number_of digits >>= λ n. Some (reply.Taken n))
    else if pointwise nat_eq text (codes "answer") then (number_of digits >>= λ n. Some (reply.Answered n))
    else if pointwise nat_eq text (codes "blocked") then (number_below 10000 digits >>= λ r. Some (reply.Blocked r))
    else None

unfoldable pub reply_at : List ℕ → Option Reply
reply_at text = option_map_or (λ r. Some r) (reply_of text) (numbered_reply_of (word text) (word (behind text)))

unfoldable pub body_at : List ℕ → List ℕ → Option Line
body_at mark text = do
  w ← number_below 64 (word text)
  e ← event_at mark (behind text)
  r ← reply_at (behind e.1)
  Some (record { worker = w; event = e.0; reply = r })

-- the line that this may be
unfoldable pub line_of : List ℕ → List ℕ → Option Line
line_of mark bytes = if is_utf8 bytes then body_at mark bytes else None
