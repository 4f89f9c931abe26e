-- Which dataset a text spells.
use Rattle.std.specs.Prelude.{ℕ, ◌≡◌, ◌+◌, List, [], ◌∷◌, ◌++◌, length}
use Rattle.std.specs.Option.{option_to_list}
use Rattle.sets.specs.Sets.{set_of}
use Rattle.datasets.specs.declared.quad.Quad.{Quad}
use Rattle.datasets.specs.Dataset.{Dataset, quad_order}
use Rattle.terms.specs.declared.term.Term.{Term}
use Rattle.terms.specs.Term.{term_order}
use Rattle.nquads_lines.specs.declared.stop.Line.{Line}
use Rattle.nquads_lines.specs.declared.stop.Line.TheVariants.{Nothing, Graph, Statement}
use Rattle.nquads_lines.specs.Lines.{lines}
use Rattle.nquads_lines.specs.Line.{IsLine}

-- each line says its part
pub data AreLines : List (List ℕ) → List Line → Type 0 where
  none : AreLines [] []
  more : {line : List ℕ} {said : Line} {later : List (List ℕ)} {rest : List Line} → IsLine line said → AreLines later rest → AreLines (line ∷ later) (said ∷ rest)

-- the quads of the statements
abbrev pub stated : List Line → List (Quad Term)
stated [] = []
stated (Nothing ∷ rest) = stated rest
stated (Graph name ∷ rest) = stated rest
stated (Statement q ∷ rest) = q ∷ stated rest

-- the graphs of the statements and those of the graph lines
abbrev pub declared : List Line → List Term
declared [] = []
declared (Nothing ∷ rest) = declared rest
declared (Graph name ∷ rest) = name ∷ declared rest
declared (Statement q ∷ rest) = option_to_list q.graph ++ declared rest

-- the dataset has the statements' quads, their graphs and those of the graph lines, and no others
pub record Spells (text : List ℕ) (d : Dataset Term) : Type 0 where
  pub said : List Line
  pub each : AreLines (lines text) said
  pub quads : d.quads ≡ set_of (quad_order term_order) (stated said)
  pub names : d.names ≡ set_of term_order (declared said)

-- the line says nothing that a line may say
abbrev pub IsBad : List ℕ → Type 0
IsBad line = (said : Line) → IsLine line said → ⊥

-- the n-th of these lines, counted from 1, is the first bad one
pub record IsFirstBadOf (all : List (List ℕ)) (n : ℕ) : Type 0 where
  pub before : List Line
  pub bad : List ℕ
  pub after : List (List ℕ)
  pub front : List (List ℕ)
  pub cut : all ≡ front ++ bad ∷ after
  pub good : AreLines front before
  pub here : IsBad bad
  pub number : n ≡ length front + 1

abbrev pub IsFirstBad : List ℕ → ℕ → Type 0
IsFirstBad text n = IsFirstBadOf (lines text) n
