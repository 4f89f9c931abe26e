-- Each solution of a pattern has a place for each number below the width, and for no other.
use Rattle.std.proofs.Common.{◌≡◌, ℕ, List, [], ◌∷◌, length, Option, Some, None, refl, sym, ap, ◌∙◌, arith}
use Rattle.std.proofs.lemmas.List.{length-set, length-replicate}
use Rattle.std.specs.Prelude.{IfSome}
use Rattle.std.specs.List.{AllByRecursion}
use Rattle.std.specs.declared.cmp.Ordering.{Ordering}
use Rattle.std.specs.Ordering.{eq_by_cmp}
use Rattle.sets.proofs.Every.{all_by}
use Rattle.datasets.specs.Dataset.{Dataset}
use Rattle.datasets.specs.declared.quad.Quad.{Quad}
use Rattle.algebra.specs.declared.pattern.Place.{Place}
use Rattle.algebra.specs.declared.pattern.Place.TheVariants as place
use Rattle.algebra.specs.Plans.{Plan}
use Rattle.meaning.specs.Vocabulary.{Vocabulary}
use Rattle.meaning.specs.Mapping.{Mapping, term_for, merge, bound_to, fitted}
use Rattle.meaning.specs.Solutions.{solutions}
use Rattle.meaning_laws.proofs.Bindings.{length-merge}
use Rattle.translation_laws.proofs.SolutionLaws.{if_chosen, solutions_kept}

module _ {K : Type 0} (R : K → K → Ordering) (width : ℕ) where
  abbrev IsRow : Mapping K → Type 0
  IsRow m = length m ≡ width

  fitted_row : (p : Place K) (x : K) (m : Mapping K) → IsRow m → IfSome (fitted R p x m) IsRow
  fitted_row (place.Term y) x m h = if_chosen IsRow (eq_by_cmp R x y) m h
  fitted_row (place.Variable v) x m h = at (term_for m v)
    where
      at : (o : Option K) → IfSome (bound_to R m v x o) IsRow
      at None = length-set m v (Some x) ∙ h
      at (Some y) = if_chosen IsRow (eq_by_cmp R x y) m h

  merged_row : (a b : Mapping K) → IsRow a → IsRow b → IsRow (merge a b)
  merged_row a b ha hb = length-merge a b (omega (arith, ha, hb)) ∙ ha

  abbrev IsAny : K → Type 0
  IsAny x = Unit {0}

  beyond_row : (m : Mapping K) → IsRow m → term_for m width ≡ None
  beyond_row m h = ap (term_for m) (sym h) ∙ past m
    where
      past : (a : Mapping K) → term_for a (length a) ≡ None
      past [] = refl
      past (x ∷ a) = past a

  beyond_rows : (ms : List (Mapping K)) → AllByRecursion IsRow ms → AllByRecursion (λ m. term_for m width ≡ None) ms
  beyond_rows [] h = tt
  beyond_rows (m ∷ ms) h = (beyond_row m h.0, beyond_rows ms h.1)

pub rows_of_width : {K : Type 0} (V : Vocabulary K) (width : ℕ) (p : Plan K) (d : Dataset K) (graph : Option K) → AllByRecursion (λ m. length m ≡ width) (solutions V.order V.passes width p d graph)
rows_of_width {K} V width p d graph =
    solutions_kept V.order width (IsAny V.order width) (IsRow V.order width) (length-replicate width None) (λ p x m any h. fitted_row V.order width p x m h) (merged_row V.order width) V.passes d
    (all_by (λ (q : Quad K). Unit {0} × Unit {0} × Unit {0}) (λ q. (tt, tt, tt)) d.quads) (all_by (IsAny V.order width) (λ x. tt) d.names) p graph

pub unbound_beyond : {K : Type 0} (V : Vocabulary K) (width : ℕ) (p : Plan K) (d : Dataset K) (graph : Option K) → AllByRecursion (λ m. term_for m width ≡ None) (solutions V.order V.passes width p d graph)
unbound_beyond V width p d graph = beyond_rows V.order width (solutions V.order V.passes width p d graph) (rows_of_width V width p d graph)
