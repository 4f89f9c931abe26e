-- A renaming carries tests, choices and what is gathered over lists along. k tells which elements
-- are renamed.
use Rattle.std.proofs.Common.{◌≡◌, Bool, true, false, ◌&&◌, List, [], ◌∷◌, ◌++◌, Option, Some, None, map, refl, sym, ◌∙◌}
use Rattle.std.specs.Prelude.{cond, filter, filter_map}
use Rattle.std.specs.List.{list_all, cons_option, flat_map}
use Rattle.std.specs.Option.{option_map}
use Rattle.std.proofs.lemmas.Bool.{and_parts, and_from}
use Rattle.std.proofs.lemmas.List.{map-append}
use Rattle.sets.proofs.Filters.{each_joined}
use Rattle.meaning_laws.specs.Renaming.{option_known}

-- ---- choices

pub map-if : {A B : Type 0} (f : A → B) (b : Bool) (xs ys : List A) → map f (cond b xs ys) ≡ cond b (map f xs) (map f ys)
map-if f true xs ys = refl
map-if f false xs ys = refl

pub all-if : {A : Type 0} (p : A → Bool) (b : Bool) (xs ys : List A) → list_all p xs ≡ true → list_all p ys ≡ true
    → list_all p (cond b xs ys) ≡ true
all-if p true xs ys h k = h
all-if p false xs ys h k = k

pub some-if : {A B : Type 0} (f : A → B) (b : Bool) (x : A) → option_map f (cond b (Some x) None) ≡ cond b (Some (f x)) None
some-if f true x = refl
some-if f false x = refl

pub known-if : {A : Type 0} (k : A → Bool) (b : Bool) (x : A) → k x ≡ true → option_known k (cond b (Some x) None) ≡ true
known-if k true x h = h
known-if k false x h = refl

-- ---- lists

pub map-cons : {A B : Type 0} (f : A → B) (m : Option A) (xs : List A) → map f (cons_option m xs) ≡ cons_option (option_map f m) (map f xs)
map-cons f None xs = refl
map-cons f (Some x) xs = refl

pub all-cons : {A : Type 0} (p : A → Bool) (m : Option A) (xs : List A) → option_known p m ≡ true → list_all p xs ≡ true
    → list_all p (cons_option m xs) ≡ true
all-cons p None xs h h' = h'
all-cons p (Some x) xs h h' = and_from (p x) (list_all p xs) h h'

pub all-filter : {A : Type 0} (p q : A → Bool) (xs : List A) → list_all p xs ≡ true → list_all p (filter q xs) ≡ true
all-filter p q [] h = refl
all-filter p q (x ∷ xs) h =
    let parts = and_parts (p x) (list_all p xs) h in
    let rest = all-filter p q xs parts.1 in
    all-if p (q x) (x ∷ filter q xs) (filter q xs) (and_from (p x) (list_all p (filter q xs)) parts.0 rest) rest

-- ---- a test that a renaming keeps

module _ {A B : Type 0} (f : A → B) (k p : A → Bool) (q : B → Bool) (e : (x : A) → k x ≡ true → q (f x) ≡ p x) where
  pub map-filter : (xs : List A) → list_all k xs ≡ true → map f (filter p xs) ≡ filter q (map f xs)
  map-filter [] h = refl
  map-filter (x ∷ xs) h =
      let parts = and_parts (k x) (list_all k xs) h in
      let rest = map-filter xs parts.1 in
      map-if f (p x) (x ∷ filter p xs) (filter p xs)
      ∙ (λ i. cond (sym (e x parts.0) i) (f x ∷ rest i) (rest i))

  pub all-map : (xs : List A) → list_all k xs ≡ true → list_all q (map f xs) ≡ list_all p xs
  all-map [] h = refl
  all-map (x ∷ xs) h =
      let parts = and_parts (k x) (list_all k xs) h in
      (λ i. e x parts.0 i && all-map xs parts.1 i)

-- ---- what is found of each element

module _ {A B C D : Type 0} (f : A → B) (g : C → D) (k : A → Bool) where
  pub map-filter_map : (p : A → Option C) (q : B → Option D) → ((x : A) → k x ≡ true → option_map g (p x) ≡ q (f x))
      → (xs : List A) → list_all k xs ≡ true → map g (filter_map p xs) ≡ filter_map q (map f xs)
  map-filter_map p q e [] h = refl
  map-filter_map p q e (x ∷ xs) h =
      let parts = and_parts (k x) (list_all k xs) h in
      map-cons g (p x) (filter_map p xs)
      ∙ (λ i. cons_option (e x parts.0 i) (map-filter_map p q e xs parts.1 i))

  pub map-flat_map : (p : A → List C) (q : B → List D) → ((x : A) → k x ≡ true → map g (p x) ≡ q (f x))
      → (xs : List A) → list_all k xs ≡ true → map g (flat_map p xs) ≡ flat_map q (map f xs)
  map-flat_map p q e [] h = refl
  map-flat_map p q e (x ∷ xs) h =
      let parts = and_parts (k x) (list_all k xs) h in
      map-append g (p x) (flat_map p xs)
      ∙ (λ i. e x parts.0 i ++ map-flat_map p q e xs parts.1 i)

module _ {A C : Type 0} (k : A → Bool) (j : C → Bool) where
  pub all-filter_map : (p : A → Option C) → ((x : A) → k x ≡ true → option_known j (p x) ≡ true)
      → (xs : List A) → list_all k xs ≡ true → list_all j (filter_map p xs) ≡ true
  all-filter_map p e [] h = refl
  all-filter_map p e (x ∷ xs) h =
      let parts = and_parts (k x) (list_all k xs) h in
      all-cons j (p x) (filter_map p xs) (e x parts.0) (all-filter_map p e xs parts.1)

  pub all-flat_map : (p : A → List C) → ((x : A) → k x ≡ true → list_all j (p x) ≡ true)
      → (xs : List A) → list_all k xs ≡ true → list_all j (flat_map p xs) ≡ true
  all-flat_map p e [] h = refl
  all-flat_map p e (x ∷ xs) h =
      let parts = and_parts (k x) (list_all k xs) h in
      each_joined j (p x) (flat_map p xs) (e x parts.0) (all-flat_map p e xs parts.1)
