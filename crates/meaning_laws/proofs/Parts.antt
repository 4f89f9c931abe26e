-- What is some member of a part is some member of the whole; which graph names a dataset's quads
-- have.
use Rattle.std.proofs.Common.{◌≡◌, Bool, true, false, ◌||◌, List, [], ◌∷◌, ◌++◌, Option, Some, None, Result, Ok, Err, refl, sym, ap, ◌∙◌}
use Rattle.std.specs.Prelude.{filter, if◌then◌else◌}
use Rattle.std.specs.List.{list_any, cons_option}
use Rattle.std.specs.declared.cmp.Ordering.{Ordering}
use Rattle.std.specs.declared.cmp.Ordering.TheVariants.{Less, Equal, Greater}
use Rattle.std.specs.Ordering.{eq_by_cmp}
use Rattle.std.proofs.lemmas.Bool.{or_left, or_right}
use Rattle.sets.specs.Sets.{placed, with, set_of, has}
use Rattle.datasets.specs.declared.quad.Quad.{Quad}
use Rattle.datasets.specs.Dataset.{Dataset, IsDataset, names_of}

any-if : {A : Type 0} (p : A → Bool) (b : Bool) (x : A) (xs : List A) → list_any p (if b then x ∷ xs else xs) ≡ true → (p x || list_any p xs) ≡ true
any-if p true x xs h = h
any-if p false x xs h = or_right (p x) (list_any p xs) h

pub or-more : (a b c : Bool) → (a || b) ≡ true → (b ≡ true → c ≡ true) → (a || c) ≡ true
or-more true b c h f = refl
or-more false b c h f = f h

pub any-filter : {A : Type 0} (p q : A → Bool) (xs : List A) → list_any p (filter q xs) ≡ true → list_any p xs ≡ true
any-filter p q [] h = h
any-filter p q (x ∷ xs) h =
    or-more (p x) (list_any p (filter q xs)) (list_any p xs) (any-if p (q x) x (filter q xs) h) (any-filter p q xs)

or-skip : (a b c : Bool) → (b || c) ≡ true → (a || (b || c)) ≡ true
or-skip a b c h = or_right a (b || c) h

or-over : (a b c d : Bool) → (b || d) ≡ true → (d ≡ true → (a || c) ≡ true) → (a || (b || c)) ≡ true
or-over true b c d h f = refl
or-over false true c d h f = refl
or-over false false c d h f = f h

module _ {A : Type 0} (R : A → A → Ordering) (p : A → Bool) where
  any-placed : (r : Ordering) (x y : A) (ys further : List A) → (list_any p further ≡ true → (p x || list_any p ys) ≡ true)
      → list_any p (placed r x y ys further) ≡ true → (p x || (p y || list_any p ys)) ≡ true
  any-placed Less x y ys further f h = h
  any-placed Equal x y ys further f h = or-skip (p x) (p y) (list_any p ys) h
  any-placed Greater x y ys further f h = or-over (p x) (p y) (list_any p ys) (list_any p further) h f

  any-with : (x : A) (ys : List A) → list_any p (with R x ys) ≡ true → (p x || list_any p ys) ≡ true
  any-with x [] h = h
  any-with x (y ∷ ys) h = any-placed (R x y) x y ys (with R x ys) (any-with x ys) h

  pub any-set_of : (xs : List A) → list_any p (set_of R xs) ≡ true → list_any p xs ≡ true
  any-set_of [] h = h
  any-set_of (x ∷ xs) h = or-more (p x) (list_any p (set_of R xs)) (list_any p xs) (any-with x (set_of R xs) h) (any-set_of xs)

module _ {K : Type 0} (R : K → K → Ordering) (g : K) where
  -- whether a quad's graph has this name
  abbrev pub is_of : Option K → Bool
  is_of None = false
  is_of (Some h) = eq_by_cmp R g h

  abbrev pub in_it : Quad K → Bool
  in_it q = is_of q.graph

  has-cons : (h : Option K) (ns : List K) → has R (cons_option h ns) g ≡ (is_of h || has R ns g)
  has-cons None ns = refl
  has-cons (Some h) ns = refl

  pub has-names_of : (qs : List (Quad K)) → has R (names_of qs) g ≡ list_any in_it qs
  has-names_of [] = refl
  has-names_of (q ∷ qs) = has-cons q.graph (names_of qs) ∙ ap (λ b. is_of q.graph || b) (has-names_of qs)

pub either : (a b c d : Bool) → (a || b) ≡ true → (a ≡ true → c ≡ true) → (b ≡ true → d ≡ true) → (c || d) ≡ true
either true b c d h f k = or_left c d (f refl)
either false b c d h f k = or_right c d (k h)

-- what comes to an end leaves a dataset
module _ {K : Type 0} (R : K → K → Ordering) where
  abbrev pub LeavesDataset : {E : Type 0} → Result (Dataset K) E → Type 0
  LeavesDataset (Ok d) = IsDataset R d
  LeavesDataset (Err e) = Unit {0}
