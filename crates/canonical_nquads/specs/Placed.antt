-- Lines of quads and names by places, from the texts of the terms at these places.
use Rattle.std.specs.Prelude.{◌≡◌, Result, IfOk, ℕ, ◌==◌, Bool, false, List, [], ◌∷◌, ◌++◌, Option, Some, None, codes, slice_index_or}
use Rattle.std.specs.declared.alloc.AllocError.{AllocError}
use Rattle.terms.specs.declared.term.Term.{Term}
use Rattle.terms.specs.Canonical.{term_text}
use Rattle.datasets.specs.declared.quad.Quad.{Quad}
use Rattle.nquads_lines.specs.Line.{graph_mark}

abbrev pub text_at : List (List ℕ) → ℕ → List ℕ
text_at texts place = slice_index_or texts place []

abbrev pub graph_text_at : List (List ℕ) → Option ℕ → List ℕ
graph_text_at texts None = []
graph_text_at texts (Some place) = 32 ∷ text_at texts place

abbrev pub quad_text_at : List (List ℕ) → Quad ℕ → List ℕ
quad_text_at texts q = text_at texts q.subject ++ 32 ∷ text_at texts q.predicate ++ 32 ∷ text_at texts q.object ++ graph_text_at texts q.graph ++ codes " ."

abbrev pub graph_line_at : List (List ℕ) → ℕ → List ℕ
graph_line_at texts place = graph_mark ++ text_at texts place

-- the quad's graph has its name at this place
abbrev pub is_name_at : ℕ → Option ℕ → Bool
is_name_at place None = false
is_name_at place (Some name) = place == name

abbrev pub is_in_at : ℕ → Quad ℕ → Bool
is_in_at place q = is_name_at place q.graph

-- where there is a text, it is the term's
abbrev pub IsTextOf : ℕ → Term → Result (List ℕ) AllocError → Type 0
IsTextOf tag t made = IfOk made (λ text. text ≡ term_text tag t)
