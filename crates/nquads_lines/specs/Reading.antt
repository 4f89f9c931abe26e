-- Reading a line from left to right.
use Rattle.std.specs.Prelude.{ℕ, ◌≡◌, ◌↔◌, ◌==◌, nat_eq, Bool, true, false, List, [], ◌∷◌, length, drop, Option, Some, None, Result, Ok, Err, if◌then◌else◌}
use Rattle.std.specs.Str.{is_utf8}
use Rattle.std.specs.List.{starts_with}
use Rattle.iris.specs.Runs.{rest_of}
use Rattle.iris.specs.Bracketed.{◌>>=◌}
use Rattle.terms.specs.declared.term.Term.{Term}
use Rattle.terms.specs.declared.term.Term.TheVariants as term
use Rattle.nquads_lines.specs.Undone.{after, iri_at}
use Rattle.nquads_lines.specs.ReadTerms.{begins_with, subject_at, object_at}
use Rattle.nquads_lines.specs.declared.stop.Line.{Line}
use Rattle.nquads_lines.specs.declared.stop.Line.TheVariants.{Nothing, Graph, Statement}
use Rattle.nquads_lines.specs.declared.stop.Stop.{Stop}
use Rattle.nquads_lines.specs.declared.stop.Stop.TheVariants as stop
use Rattle.nquads_lines.specs.Line.{is_blank, graph_mark, IsLine}

-- What a function returned, seen by view, is what reading gives, unless memory ran out.
abbrev pub Fails : {Y : Type 0} → Stop → Option Y → Type 0
Fails stop.Memory read = Unit {0}
Fails stop.Bad read = read ≡ None

abbrev pub Gives : {X Y : Type 0} → (X → Y) → Result X Stop → Option Y → Type 0
Gives view (Ok x) read = read ≡ Some (view x)
Gives view (Err e) read = Fails e read

abbrev pub skip_blanks : List ℕ → List ℕ
skip_blanks text = rest_of is_blank text

abbrev pub begins_comment : List ℕ → Bool
begins_comment [] = true
begins_comment (b ∷ bs) = b == 35

unfoldable pub ends : List ℕ → Bool
ends bs = begins_comment (skip_blanks bs)

-- the graph of a statement, and what follows it and its blanks
unfoldable pub graph_at : List ℕ → Option (Option Term × List ℕ)
graph_at text = if begins_with 60 text then (iri_at text >>= λ g. Some (Some (term.Iri g.0), skip_blanks g.1)) else Some (None, text)

unfoldable pub statement_at : List ℕ → Option Line
statement_at line = do
  s ← subject_at (skip_blanks line)
  p ← iri_at (skip_blanks s.1)
  o ← object_at (skip_blanks p.1)
  g ← graph_at (skip_blanks o.1)
  rest ← after 46 g.1
  if ends rest then Some (Statement (record { subject = s.0; predicate = term.Iri p.0; object = o.0; graph = g.0 })) else None

abbrev pub is_empty : List ℕ → Bool
is_empty [] = true
is_empty (b ∷ bs) = false

-- the graph that is declared by what follows the mark
unfoldable pub declared_at : List ℕ → Option Line
declared_at text = do
  g ← iri_at text
  if is_empty (skip_blanks g.1) then Some (Graph (term.Iri g.0)) else None

unfoldable pub line_of : List ℕ → Option Line
line_of line =
    if is_utf8 line then
    (if starts_with nat_eq line graph_mark then declared_at (drop (length graph_mark) line) else if ends line then Some Nothing else statement_at line)
    else None

-- the law of this reading: it gives what the line says
abbrev pub LinesAreRead : Type 0
LinesAreRead = (line : List ℕ) (said : Line) → (line_of line ≡ Some said) ↔ IsLine line said
