-- Solutions of a basic graph pattern in the standard's words (SPARQL 1.1 Query, 18.3.1): what a
-- solution makes of the pattern is a subgraph, and the solution binds the variables of the pattern
-- alone. Patterns have no blank nodes, so each solution is there once.
use Rattle.std.specs.Prelude.{◌≡◌, ◌↔◌, ℕ, ◌<◌, Bool, true, false, ◌||◌, nat_eq, List, length, Option, Some, is_some, All, Any, Contains}
use Rattle.std.specs.List.{list_any}
use Rattle.std.specs.List.Sorted.{IsStrictlySortedBy}
use Rattle.std.specs.declared.cmp.Ordering.{Ordering}
use Rattle.datasets.specs.declared.quad.Quad.{Quad}
use Rattle.algebra.specs.declared.pattern.Place.{Place}
use Rattle.algebra.specs.declared.pattern.Place.TheVariants as place
use Rattle.algebra.specs.declared.pattern.TriplePattern.{TriplePattern}
use Rattle.meaning.specs.Vocabulary.{Vocabulary}
use Rattle.meaning.specs.Mapping.{Mapping, term_for, mapping_cmp}
use Rattle.meaning.specs.Solutions.{basic_solutions}
use Rattle.meaning_laws.specs.Answers.{IsExactOrder}

module _ {K : Type 0} where
  -- whether a place is this variable
  abbrev pub is_variable : ℕ → Place K → Bool
  is_variable v (place.Term t) = false
  is_variable v (place.Variable w) = nat_eq w v

  -- whether a variable stands in a triple pattern
  abbrev pub stands_in : ℕ → TriplePattern K → Bool
  stands_in v t = is_variable v t.subject || (is_variable v t.predicate || is_variable v t.object)

  -- what a mapping makes of a place, if that is a term
  abbrev pub term_under : Mapping K → Place K → Option K
  term_under mapping (place.Term t) = Some t
  term_under mapping (place.Variable v) = term_for mapping v

  -- the triple is what a mapping makes of a triple pattern
  pub record IsInstance (mapping : Mapping K) (t : TriplePattern K) (triple : Quad K) : Type 0 where
    pub subject : term_under mapping t.subject ≡ Some triple.subject
    pub predicate : term_under mapping t.predicate ≡ Some triple.predicate
    pub object : term_under mapping t.object ≡ Some triple.object

  -- a mapping with this many places binds just the variables of the pattern, and what it makes of
  -- each triple pattern is in the graph
  pub record IsSolution (width : ℕ) (ts : List (TriplePattern K)) (triples : List (Quad K)) (mapping : Mapping K) : Type 0 where
    pub row : length mapping ≡ width
    pub binds : (v : ℕ) → is_some (term_for mapping v) ≡ list_any (stands_in v) ts
    pub instances : All (λ t. Any (IsInstance mapping t) triples) ts

-- all solutions of a basic graph pattern from a graph and nothing else, each once, in order
pub record AreSolutions {K : Type 0} (R : K → K → Ordering) (width : ℕ) (ts : List (TriplePattern K)) (triples : List (Quad K))
    (found : List (Mapping K)) : Type 0 where
  pub once : IsStrictlySortedBy (mapping_cmp R) found
  pub members : (mapping : Mapping K) → Contains found mapping ↔ IsSolution width ts triples mapping

-- where all variables are below the width, the joined solutions of the triple patterns are the
-- solutions of the basic graph pattern
abbrev pub JoinsAreSolutions : Type 0 → Type 0
JoinsAreSolutions K =
    (V : Vocabulary K) (width : ℕ) (ts : List (TriplePattern K)) (triples : List (Quad K)) → IsExactOrder V
    → ((v : ℕ) → list_any (stands_in v) ts ≡ true → v < width)
    → AreSolutions V.order width ts triples (basic_solutions V.order width ts triples)
