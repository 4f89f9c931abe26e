-- The one text of a dataset (RDF 1.1 N-Quads, section 4, canonical form): a line a quad, and a line
-- `#@graph` and its name for each named graph without a quad; the lines in the order of their
-- bytes, each once, each ended by LF.
use Rattle.std.specs.Prelude.{ℕ, Bool, not, List, [], ◌∷◌, ◌++◌, map, filter, Option, Some, None, codes}
use Rattle.std.specs.List.{flat_map}
use Rattle.std.specs.Global.{Vec}
use Rattle.sets.specs.Sets.{set_of, has}
use Rattle.datasets.specs.declared.quad.Quad.{Quad}
use Rattle.datasets.specs.Dataset.{Dataset, names_of}
use Rattle.terms.specs.declared.term.Term.{Term}
use Rattle.terms.specs.Term.{text_cmp, term_order}
use Rattle.terms.specs.Canonical.{term_text}
use Rattle.nquads_lines.specs.Line.{graph_mark}

abbrev pub graph_text : ℕ → Option Term → List ℕ
graph_text tag None = []
graph_text tag (Some g) = 32 ∷ term_text tag g

abbrev pub quad_text : ℕ → Quad Term → List ℕ
quad_text tag q = term_text tag q.subject ++ 32 ∷ term_text tag q.predicate ++ 32 ∷ term_text tag q.object ++ graph_text tag q.graph ++ codes " ."

abbrev pub graph_line : ℕ → Term → List ℕ
graph_line tag g = graph_mark ++ term_text tag g

-- no quad is in the graph of this name
abbrev pub is_empty_graph : List (Quad Term) → Term → Bool
is_empty_graph quads g = not (has term_order (names_of quads) g)

abbrev pub lines_of : List (Quad Term) → List Term → ℕ → List (List ℕ)
lines_of quads names tag = map (quad_text tag) quads ++ map (graph_line tag) (filter (is_empty_graph quads) names)

abbrev pub ended : List ℕ → List ℕ
ended line = line ++ 10 ∷ []

abbrev pub canonical : Dataset Term → ℕ → List ℕ
canonical d tag = flat_map ended (set_of text_cmp (lines_of d.quads d.names tag))

-- the bytes of pieces that stand one behind another
abbrev pub text_of_pieces : List (Vec ℕ) → List ℕ
text_of_pieces pieces = flat_map (λ piece. piece.items) pieces
