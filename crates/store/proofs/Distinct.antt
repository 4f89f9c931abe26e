-- Places of which each is kept once.
use Rattle.std.specs.Prelude.{slice_index_or}
use Rattle.std.proofs.Common.{◌≡◌, ℕ, suc, ◌<◌, Bool, true, List, [], ◌∷◌, length, map, refl, sym, ap, subst, ◌∙◌, arith}
use Rattle.std.specs.List.{list_all, Contains}
use Rattle.std.proofs.lemmas.Bool.{and_from}
use Rattle.std.proofs.lemmas.List.{length-map, get_or-map, get_or_default}
use Rattle.sets.specs.Sets.{set_of}
use Rattle.sets.proofs.SetLaws.{same_set, sorted-set_of, has-set_of, has_alike}
use Rattle.terms.specs.Term.{term_order}
use Rattle.terms.specs.TermLaws.{term_total, term_exact}
use Rattle.terms.specs.declared.term.Term.{Term}
use Rattle.store.proofs.Places.{all_at}

-- what is made of one list's elements is made of another's that has them
mapped : (f : ℕ → Term) (xs ys : List ℕ) → ((x : ℕ) → Contains xs x → Contains ys x) → (t : Term) → Contains (map f xs) t → Contains (map f ys) t
mapped f xs ys to t c =
    let lt : c.0 < length xs = subst (λ (n : ℕ). c.0 < n) (length-map xs f) c.1 in
    let x = slice_index_or xs c.0 0 in
    let is : f x ≡ t = sym (get_or-map f xs c.0 0 t lt) ∙ c.2 in
    let there : Contains ys x = to x (c.0, lt, get_or_default xs c.0 x 0 lt) in
    (there.0, subst (λ (n : ℕ). there.0 < n) (sym (length-map ys f)) there.1, get_or-map f ys there.0 x t there.1 ∙ ap f there.2 ∙ is)

all_such : (p : ℕ → Bool) (xs : List ℕ) → ((x : ℕ) → Contains xs x → p x ≡ true) → list_all p xs ≡ true
all_such p [] f = refl
all_such p (y ∷ ys) f = and_from (p y) (list_all p ys) (f y (0, omega arith, refl)) (all_such p ys (λ x c. f x (suc c.0, omega (arith, c.1), c.2)))

-- lists with the same places
module _ (all once : List ℕ) (kept : (x : ℕ) → Contains all x → Contains once x) (only : (x : ℕ) → Contains once x → Contains all x) where
  pub same_terms : (f : ℕ → Term) → set_of term_order (map f once) ≡ set_of term_order (map f all)
  same_terms f =
      same_set term_total term_exact (set_of term_order (map f once)) (set_of term_order (map f all)) (sorted-set_of term_total (map f once)) (sorted-set_of term_total (map f all))
      (λ q. has-set_of term_total q (map f once)
      ∙ has_alike term_total term_exact (map f once) (map f all) (mapped f once all only) (mapped f all once kept) q
      ∙ sym (has-set_of term_total q (map f all)))

  pub still_all : (p : ℕ → Bool) → list_all p all ≡ true → list_all p once ≡ true
  still_all p h = all_such p once (λ x c. let there = only x c in ap p (sym there.2) ∙ all_at p all there.0 x h there.1)
