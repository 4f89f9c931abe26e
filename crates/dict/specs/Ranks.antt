-- Terms by their places in a list, and the list that comes of taking them in their order.
use Rattle.std.specs.Prelude.{◌≡◌, ℕ, ◌-◌, ◌<◌, ◌==◌, length, Bool, true, false, List, [], ◌∷◌, ◌++◌, All, map, slice_index_or, if◌then◌else◌}
use Rattle.std.specs.List.{list_any, fold}
use Rattle.std.specs.Ordering.{eq_by_cmp, is_eq}
use Rattle.std.specs.declared.cmp.Ordering.{Ordering}
use Rattle.terms.specs.Term.{term_order}
use Rattle.terms.specs.Placed.{term_at, is_within}
use Rattle.terms.specs.declared.term.Term.{Term}
use Rattle.datasets.specs.declared.id.Id.{Id}
use Rattle.datasets.specs.declared.id.Id.TheVariants.{Known}
use Rattle.dict.specs.Dictionary.{is_written, term_of, is_known}
use Rattle.dict.specs.declared.ranks.Placed.{Placed}

abbrev pub term_in : Placed → Term
term_in p = p.term

-- how the term at a place stands to the one in front of it; the first is not the same as what is
-- not there
pub record IsStep (list : List Placed) (place : ℕ) (step : Ordering) : Type 0 where
  pub first : place ≡ 0 → is_eq step ≡ false
  pub later : (d : Placed) → 0 < place → place < length list → step ≡ term_order (term_in (slice_index_or list place d)) (term_in (slice_index_or list (place - 1) d))

-- so it is told of each of them
pub record AreSteps (list : List Placed) (steps : List Ordering) : Type 0 where
  pub as_many : length steps ≡ length list
  pub each : (place : ℕ) (d : Ordering) → place < length list → IsStep list place (slice_index_or steps place d)

abbrev pub is_at : ℕ → Placed → Bool
is_at place p = place == p.place

-- it is the term at its place in this list
abbrev pub IsPlaced : List Term → Placed → Type 0
IsPlaced terms p = (term_at terms p.place ≡ term_in p) × (is_within terms p.place ≡ true)

-- all are, and at each place of the list is one of them
pub record ArePlaced (terms : List Term) (list : List Placed) : Type 0 where
  pub each : All (IsPlaced terms) list
  pub all : (place : ℕ) → is_within terms place ≡ true → list_any (is_at place) list ≡ true

-- they are the terms of the list, each with its place
pub record IsGathered (terms : List Term) (list : List Placed) : Type 0 where
  pub terms_are : map term_in list ≡ terms
  pub placed : ArePlaced terms list

-- whether a list ends with this term
abbrev pub ends_with : List Term → Term → Bool
ends_with [] t = false
ends_with (x ∷ []) t = eq_by_cmp term_order t x
ends_with (x ∷ y ∷ ys) t = ends_with (y ∷ ys) t

-- a list that rises with one more term, where that isn't at its end; made nodes are left out
abbrev pub with_next : List Term → Term → List Term
with_next found t = if is_written t then (if ends_with found t then found else found ++ t ∷ []) else found

-- these terms, taken one after another
abbrev pub taken : List Term → List Term
taken terms = fold with_next [] terms

-- this is the number of the term
pub record IsNumberOf (terms : List Term) (t : Term) (id : Id) : Type 0 where
  pub term : term_of terms id ≡ t
  pub known : is_known terms id ≡ true

-- the number at a place
abbrev pub number_in : List Id → ℕ → Id
number_in ids place = slice_index_or ids place (Known 0)
