-- The terms of a line, read from left to right.
use Rattle.std.specs.Prelude.{ℕ, ◌^◌, nat_eq, List, length, drop, Option, Some, None, codes, if◌then◌else◌}
use Rattle.std.specs.List.{starts_with}
use Rattle.std.specs.Cmp.Lexicographic.{pointwise}
use Rattle.iris.specs.Iri.{is_digit}
use Rattle.iris.specs.Runs.{run_of, rest_of}
use Rattle.iris.specs.Bracketed.{◌>>=◌}
use Rattle.datasets.specs.declared.read.GraphPlace.{GraphPlace}
use Rattle.datasets.specs.declared.read.GraphPlace.TheVariants.{Any, Only}
use Rattle.datasets.specs.declared.read.Read.{Read}
use Rattle.datasets.specs.declared.read.Read.TheVariants.{Scan, GraphIs, Graphs}
use Rattle.terms.specs.declared.term.Term.{Term}
use Rattle.terms.specs.declared.term.Term.TheVariants as term
use Rattle.nquads_lines.specs.ReadTerms.{object_at}
use Rattle.journal.specs.Words.{word, behind, number_below}

-- the number at the front, and what follows the letter behind it
unfoldable pub part_at : List ℕ → Option (ℕ × List ℕ)
part_at text = number_below (2 ^ 32) (run_of is_digit text) >>= λ n. Some (n, drop 1 (rest_of is_digit text))

-- the made node of a label, by what follows its mark
unfoldable pub made_of : List ℕ → Option Term
made_of text = do
  r ← part_at text
  o ← part_at r.1
  l ← part_at o.1
  s ← part_at l.1
  Some (term.Made r.0 o.0 l.0 s.0)

-- a label with the mark is a made node's
abbrev pub unlabelled : List ℕ → Term → Option Term
unlabelled mark (term.Iri i) = Some (term.Iri i)
unlabelled mark (term.Literal l) = Some (term.Literal l)
unlabelled mark (term.Blank b) = if starts_with nat_eq b mark then made_of (drop (length mark) b) else Some (term.Blank b)
unlabelled mark (term.Made r o l s) = Some (term.Made r o l s)

-- a term, and what follows the space behind it
unfoldable pub term_at : List ℕ → List ℕ → Option (Term × List ℕ)
term_at mark text = do
  x ← object_at text
  t ← unlabelled mark x.0
  Some (t, behind x.1)

unfoldable pub place_at : List ℕ → List ℕ → Option (Option Term × List ℕ)
place_at mark text =
    if starts_with nat_eq text (codes "-") then Some (None, behind text)
    else (term_at mark text >>= λ t. Some (Some t.0, t.1))

unfoldable pub graph_at : List ℕ → List ℕ → Option (GraphPlace Term × List ℕ)
graph_at mark text =
    if starts_with nat_eq text (codes "-") then Some (Any, behind text)
    else if starts_with nat_eq text (codes "default") then Some (Only None, behind text)
    else (term_at mark text >>= λ t. Some (Only (Some t.0), t.1))

unfoldable pub scan_at : List ℕ → List ℕ → Option (Read Term × List ℕ)
scan_at mark text = do
  s ← place_at mark text
  p ← place_at mark s.1
  o ← place_at mark p.1
  g ← graph_at mark o.1
  Some (Scan (record { subject = s.0; predicate = p.0; object = o.0; graph = g.0 }), g.1)

unfoldable pub read_at : List ℕ → List ℕ → Option (Read Term × List ℕ)
read_at mark text =
    if pointwise nat_eq (word text) (codes "scan") then scan_at mark (behind text)
    else if pointwise nat_eq (word text) (codes "is") then (term_at mark (behind text) >>= λ t. Some (GraphIs t.0, t.1))
    else if pointwise nat_eq (word text) (codes "graphs") then Some (Graphs, behind text)
    else None
