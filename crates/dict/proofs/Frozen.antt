-- The set of the written terms is a dictionary.
use Rattle.std.proofs.Common.{◌≡◌, Bool, true, false, List, [], ◌∷◌, refl}
use Rattle.std.specs.Prelude.{◌&&◌, filter, if◌then◌else◌}
use Rattle.std.specs.List.{list_all}
use Rattle.std.specs.declared.cmp.Ordering.{Ordering}
use Rattle.std.specs.declared.cmp.Ordering.TheVariants.{Less, Equal, Greater}
use Rattle.std.proofs.lemmas.Bool.{and_parts, and_from}
use Rattle.sets.specs.Sets.{placed, with, set_of}
use Rattle.sets.proofs.SetLaws.{sorted-set_of}
use Rattle.terms.specs.Term.{term_order}
use Rattle.terms.specs.TermLaws.{term_total}
use Rattle.terms.specs.declared.term.Term.{Term}
use Rattle.dict.specs.Dictionary.{is_written, IsDictionary}

module _ {A : Type 0} (p : A → Bool) where
  all-if : (b : Bool) (x : A) (xs : List A) → p x ≡ b → list_all p xs ≡ true → list_all p (if b then x ∷ xs else xs) ≡ true
  all-if true x xs e h = and_from (p x) (list_all p xs) e h
  all-if false x xs e h = h

  all-filter : (xs : List A) → list_all p (filter p xs) ≡ true
  all-filter [] = refl
  all-filter (x ∷ xs) = all-if (p x) x (filter p xs) refl (all-filter xs)

  module _ (R : A → A → Ordering) where
    all-placed : (r : Ordering) (x y : A) (ys further : List A) → p x ≡ true → p y ≡ true → list_all p ys ≡ true → list_all p further ≡ true → list_all p (placed r x y ys further) ≡ true
    all-placed Less x y ys further hx hy hs hf = and_from (p x) (p y && list_all p ys) hx (and_from (p y) (list_all p ys) hy hs)
    all-placed Equal x y ys further hx hy hs hf = and_from (p y) (list_all p ys) hy hs
    all-placed Greater x y ys further hx hy hs hf = and_from (p y) (list_all p further) hy hf

    all-with : (x : A) (ys : List A) → p x ≡ true → list_all p ys ≡ true → list_all p (with R x ys) ≡ true
    all-with x [] hx h = and_from (p x) true hx refl
    all-with x (y ∷ ys) hx h =
        let parts = and_parts (p y) (list_all p ys) h in
        all-placed (R x y) x y ys (with R x ys) hx parts.0 parts.1 (all-with x ys hx parts.1)

    all-set_of : (xs : List A) → list_all p xs ≡ true → list_all p (set_of R xs) ≡ true
    all-set_of [] h = refl
    all-set_of (x ∷ xs) h =
        let parts = and_parts (p x) (list_all p xs) h in
        all-with x (set_of R xs) parts.0 (all-set_of xs parts.1)

pub frozen : (terms : List Term) → IsDictionary (set_of term_order (filter is_written terms))
frozen terms = record {
  rises = sorted-set_of term_total (filter is_written terms);
  written = all-set_of is_written term_order (filter is_written terms) (all-filter is_written terms);
}
