-- Members of what is gathered over a list.
use Rattle.std.proofs.Common.{◌≡◌, ℕ, zero, suc, ◌<◌, ◌⊎◌, inl, inr, List, [], ◌∷◌, ◌++◌, length, Option, Some, None, Contains, slice_index_or, refl, sym, ap, ◌∙◌, subst, arith}
use Rattle.std.specs.Prelude.{filter_map}
use Rattle.std.specs.List.{cons_option, flat_map}
use Rattle.std.proofs.lemmas.List.Elements.{Contains-append_left, Contains-append_right, Contains-append_cases}

module _ {X : Type 0} where
  pub here : (x : X) (xs : List X) → Contains (x ∷ xs) x
  here x xs = (zero, omega arith, refl)

  pub there : (y : X) (xs : List X) (x : X) → Contains xs x → Contains (y ∷ xs) x
  there y xs x c = (suc c.0, let lt = c.1 in (omega (arith, lt)), c.2)

  pub first_or : (y : X) (xs : List X) (x : X) → Contains (y ∷ xs) x → (y ≡ x) ⊎ Contains xs x
  first_or y xs x c = at c.0 c.1 c.2
    where
      at : (k : ℕ) → k < length (y ∷ xs) → slice_index_or (y ∷ xs) k x ≡ x → (y ≡ x) ⊎ Contains xs x
      at zero lt e = inl e
      at (suc k) lt e = inr (k, omega (arith, lt), e)

  pub no_member : {P : Type 0} (x : X) → Contains [] x → P
  no_member x c = let lt = c.1 in absurd (omega (arith, lt))

  -- the only member
  pub one_member : (y x : X) → Contains (y ∷ []) x → y ≡ x
  one_member y x c = elim (first_or y [] x c) as (λ _. y ≡ x) [ inl e ↦ e | inr k ↦ no_member x k ]

module _ {X Y : Type 0} where
  -- what y is found of
  abbrev pub IsFound : (X → Option Y) → List X → Y → Type 0
  IsFound h xs y = (x : X) × Contains xs x × (h x ≡ Some y)

  later : (h : X → Option Y) (x : X) (xs : List X) (y : Y) → IsFound h xs y → IsFound h (x ∷ xs) y
  later h x xs y r = (r.0, there x xs r.0 r.1, r.2)

  found_first : (h : X → Option Y) (x : X) (xs : List X) (y : Y) (o : Option Y) → h x ≡ o
      → (Contains (filter_map h xs) y → IsFound h xs y) → Contains (cons_option o (filter_map h xs)) y → IsFound h (x ∷ xs) y
  found_first h x xs y None e again c = later h x xs y (again c)
  found_first h x xs y (Some z) e again c = elim (first_or z (filter_map h xs) y c) as (λ _. IsFound h (x ∷ xs) y) [
    | inl f ↦ (x, here x xs, e ∙ ap Some f)
    | inr k ↦ later h x xs y (again k)
  ]

  pub from_filter_map : (h : X → Option Y) (xs : List X) (y : Y) → Contains (filter_map h xs) y → IsFound h xs y
  from_filter_map h [] y c = no_member y c
  from_filter_map h (x ∷ xs) y c = found_first h x xs y (h x) refl (from_filter_map h xs y) c

  pub to_filter_map : (h : X → Option Y) (xs : List X) (x : X) (y : Y) → Contains xs x → h x ≡ Some y → Contains (filter_map h xs) y
  to_filter_map h [] x y c e = no_member x c
  to_filter_map h (z ∷ xs) x y c e = elim (first_or z xs x c) as (λ _. Contains (cons_option (h z) (filter_map h xs)) y) [
    | inl f ↦ subst (λ (o : Option Y). Contains (cons_option o (filter_map h xs)) y) (sym (ap h f ∙ e)) (here y (filter_map h xs))
    | inr k ↦ more (h z) (to_filter_map h xs x y k e)
  ]
    where
      more : (o : Option Y) → Contains (filter_map h xs) y → Contains (cons_option o (filter_map h xs)) y
      more None k = k
      more (Some w) k = there w (filter_map h xs) y k

  pub from_flat_map : (h : X → List Y) (xs : List X) (y : Y) → Contains (flat_map h xs) y → (x : X) × Contains xs x × Contains (h x) y
  from_flat_map h [] y c = no_member y c
  from_flat_map h (x ∷ xs) y c = elim (Contains-append_cases (h x) (flat_map h xs) y c) as (λ _. (z : X) × Contains (x ∷ xs) z × Contains (h z) y) [
    | inl k ↦ (x, here x xs, k)
    | inr k ↦ let r = from_flat_map h xs y k in (r.0, there x xs r.0 r.1, r.2)
  ]

  pub to_flat_map : (h : X → List Y) (xs : List X) (x : X) (y : Y) → Contains xs x → Contains (h x) y → Contains (flat_map h xs) y
  to_flat_map h [] x y c k = no_member x c
  to_flat_map h (z ∷ xs) x y c k = elim (first_or z xs x c) as (λ _. Contains (h z ++ flat_map h xs) y) [
    | inl f ↦ Contains-append_left (h z) (flat_map h xs) y (subst (λ w. Contains (h w) y) (sym f) k)
    | inr d ↦ Contains-append_right (h z) (flat_map h xs) y (to_flat_map h xs x y d k)
  ]
