-- Solution mappings (SPARQL 1.1 Query, 18.1.8 and 18.3). A mapping is a row: for each variable of
-- the pattern, in byte order of its name, its term or nothing.
use Rattle.std.specs.Prelude.{ℕ, Bool, true, false, List, Option, Some, None, cond, map, zip, replicate, slice_set, slice_index_or}
use Rattle.std.specs.List.{list_all, list_any}
use Rattle.std.specs.declared.cmp.Ordering.{Ordering}
use Rattle.std.specs.Ordering.{eq_by_cmp}
use Rattle.std.specs.Option.{option_cmp}
use Rattle.std.specs.Cmp.Lexicographic.{slice_cmp}
use Rattle.algebra.specs.declared.pattern.Place.{Place}
use Rattle.algebra.specs.declared.pattern.Place.TheVariants as place

abbrev pub Mapping : Type 0 → Type 0
Mapping K = List (Option K)

module _ {K : Type 0} where
  -- the empty mapping, where a pattern has this many variables
  abbrev pub empty_mapping : ℕ → Mapping K
  empty_mapping width = replicate width None

  -- the term that a mapping has for a variable
  abbrev pub term_for : Mapping K → ℕ → Option K
  term_for mapping v = slice_index_or mapping v None

  abbrev pub either : Option K → Option K → Option K
  either (Some x) y = Some x
  either None y = y

  -- the union of two mappings
  abbrev pub merge : Mapping K → Mapping K → Mapping K
  merge a b = map (λ (p : Option K × Option K). either p.0 p.1) (zip a b)

  abbrev pub are_bound : Option K → Option K → Bool
  are_bound (Some x) (Some y) = true
  are_bound (Some x) None = false
  are_bound None y = false

  -- whether some variable is bound in both
  abbrev pub shares : Mapping K → Mapping K → Bool
  shares a b = list_any (λ (p : Option K × Option K). are_bound p.0 p.1) (zip a b)

module _ {K : Type 0} (R : K → K → Ordering) where
  -- by each variable in turn, unbound first, then by the order of terms
  abbrev pub mapping_cmp : Mapping K → Mapping K → Ordering
  mapping_cmp = slice_cmp (option_cmp R)

  -- the mapping with a variable bound to this term, unless it is bound to another
  abbrev pub bound_to : Mapping K → ℕ → K → Option K → Option (Mapping K)
  bound_to mapping v x None = Some (slice_set mapping v (Some x))
  bound_to mapping v x (Some y) = cond (eq_by_cmp R x y) (Some mapping) None

  -- the mapping, with the variable bound, under which a place of a pattern is this term
  abbrev pub fitted : Place K → K → Mapping K → Option (Mapping K)
  fitted (place.Term y) x mapping = cond (eq_by_cmp R x y) (Some mapping) None
  fitted (place.Variable v) x mapping = bound_to mapping v x (term_for mapping v)

  abbrev pub agree : Option K → Option K → Bool
  agree (Some x) (Some y) = eq_by_cmp R x y
  agree (Some x) None = true
  agree None y = true

  -- whether two mappings agree on each variable that is bound in both
  abbrev pub compatible : Mapping K → Mapping K → Bool
  compatible a b = list_all (λ (p : Option K × Option K). agree p.0 p.1) (zip a b)

  -- the merge of two compatible mappings
  abbrev pub joined : Mapping K → Mapping K → Option (Mapping K)
  joined a b = cond (compatible a b) (Some (merge a b)) None
