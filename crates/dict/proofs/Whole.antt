-- The dictionary of a gathered list, and the numbers of its first terms.
use Rattle.std.proofs.Common.{◌≡◌, ℕ, ◌<◌, ◌≤◌, true, List, ◌++◌, length, map, take, filter, sym, ap, subst, ◌∙◌, arith, All}
use Rattle.std.specs.List.{list_all}
use Rattle.std.specs.List.Sorted.{IsPermutation, IsSortedByKey}
use Rattle.std.proofs.lemmas.Bool.{ltb-true}
use Rattle.std.proofs.lemmas.List.{length-map, length-append, get_or_append_left}
use Rattle.std.proofs.lemmas.List.Sorted.{length_permutation}
use Rattle.sets.specs.Sets.{set_of}
use Rattle.datasets.specs.declared.id.Id.{Id}
use Rattle.terms.specs.declared.term.Term.{Term}
use Rattle.terms.specs.declared.term.Term.TheVariants as term
use Rattle.terms.specs.Term.{term_order}
use Rattle.terms.specs.Placed.{term_at, is_within}
use Rattle.dict.specs.declared.ranks.Placed.{Placed}
use Rattle.dict.specs.Dictionary.{is_written, term_of, is_known}
use Rattle.dict.specs.Ranks.{ArePlaced, IsNumberOf, term_in, taken, number_in}
use Rattle.dict.proofs.Gathering.{within_more, sorted_terms}
use Rattle.dict.proofs.Taking.{taken_sorted}
use Rattle.dict.proofs.Numbering.{stand_for}

module _ (terms more : List Term) (list : List Placed) (placed : ArePlaced (terms ++ more) list) (same : IsPermutation (terms ++ more) (map term_in list)) where
  as_many : length list ≡ length (terms ++ more)
  as_many = sym (length-map list term_in) ∙ length_permutation (terms ++ more) (map term_in list) same

  -- the places are below the number of all
  pub places_below : (n : ℕ) → n ≡ length list → All (λ p. p.place < n) list
  places_below n e k d lt = let at = ltb-true _ (length (terms ++ more)) (placed.each k d lt).1 in omega (arith, at, e, as_many)

  pub found_is : (found : List Term) → IsSortedByKey term_in term_order list → found ≡ taken (map term_in list) → found ≡ set_of term_order (filter is_written (terms ++ more))
  found_is found sorted e = e ∙ taken_sorted (terms ++ more) (map term_in list) same (sorted_terms list sorted)

  pub numbers_stand : (found : List Term) (ids kept : List Id) → length ids ≡ length list → kept ≡ take (length terms) ids
      → ((all : List Term) → ArePlaced all list → (place : ℕ) → is_within all place ≡ true → IsNumberOf found (term_at all place) (number_in ids place))
      → (map (term_of found) kept ≡ terms) × (list_all (is_known found) kept ≡ true)
  numbers_stand found ids kept long e each =
      let long_enough : length terms ≤ length ids = omega (arith, long, as_many, length-append terms more) in
      let numbers = stand_for found terms ids long_enough (λ place h.
      subst (λ (t : Term). IsNumberOf found t (number_in ids place)) (get_or_append_left terms more (term.Made 0 0 0 0) place (ltb-true place (length terms) h))
      (each (terms ++ more) placed place (within_more terms more place h))) in
      (ap (map (term_of found)) e ∙ numbers.0, ap (list_all (is_known found)) e ∙ numbers.1)
