-- What a filter keeps of a list, and what tests tell of it.
use Rattle.std.specs.Prelude.{Bool, filter, slice_range, ◌||◌, ◌&&◌}
use Rattle.std.proofs.Common.{◌≡◌, ◌<◌, ◌≤◌, ◌-◌, ℕ, suc, zero, true, false, cond, List, [], ◌∷◌, ◌++◌, refl, sym, ap, ◌∙◌, take, drop, length, get_or, arith}
use Rattle.std.specs.List.{list_all, list_any, AllWithin}
use Rattle.std.proofs.lemmas.Bool.{false≢true, and_parts, and_from}
use Rattle.std.proofs.lemmas.List.Folds.{list_all-append}
use Rattle.std.proofs.Math.Seq.{take-nil, drop-nil}

module _ {A : Type 0} (t : A → Bool) where
  keeps : (b : Bool) (x : A) (xs ys : List A) → b ≡ true → xs ≡ ys → cond b (x ∷ xs) xs ≡ x ∷ ys
  keeps true x xs ys e f = ap (λ zs. x ∷ zs) f
  keeps false x xs ys e f = absurd (false≢true e)

  leaves : (b : Bool) (x : A) (xs ys : List A) → b ≡ false → xs ≡ ys → cond b (x ∷ xs) xs ≡ ys
  leaves true x xs ys e f = absurd (false≢true (sym e))
  leaves false x xs ys e f = f

  kept_none : (xs : List A) → ((k : ℕ) (d : A) → k < length xs → t (get_or xs k d) ≡ false) → filter t xs ≡ []
  kept_none [] h = refl
  kept_none (x ∷ xs) h = leaves (t x) x (filter t xs) [] (h 0 x (omega arith)) (kept_none xs (λ k d lt. h (suc k) d (omega arith)))

  -- of a list in three parts, where the middle one alone passes
  pub kept_middle : (xs : List A) (low high : ℕ) → low ≤ high → high ≤ length xs → AllWithin (λ e. t e ≡ false) xs 0 low → AllWithin (λ e. t e ≡ true) xs low high → AllWithin (λ e. t e ≡ false) xs high (length xs)
      → slice_range xs low high ≡ filter t xs
  kept_middle [] low high le lt front middle back = ap (take (high - low)) (drop-nil low) ∙ take-nil (high - low)
  kept_middle (x ∷ xs) zero zero le lt front middle back =
      sym (kept_none (x ∷ xs) (λ k d h. back k d (omega arith) h))
  kept_middle (x ∷ xs) zero (suc high) le lt front middle back =
      ap (λ n. take n (x ∷ xs)) (let e : suc high - 0 ≡ suc high = omega arith in e) ∙ sym (keeps (t x) x (filter t xs) (take high xs) (middle 0 x (omega arith) (omega arith))
      (sym (ap (λ n. take n xs) (let e : high ≡ high - 0 = omega arith in e) ∙ kept_middle xs 0 high (omega arith) (omega arith) (λ k d l h. absurd (omega arith)) (λ k d l h. middle (suc k) d (omega arith) (omega arith)) (λ k d l h. back (suc k) d (omega arith) (omega arith)))))
  kept_middle (x ∷ xs) (suc low) zero le lt front middle back = absurd (omega arith)
  kept_middle (x ∷ xs) (suc low) (suc high) le lt front middle back =
      ap (λ n. take n (drop low xs)) (let e : suc high - suc low ≡ high - low = omega arith in e)
      ∙ kept_middle xs low high (omega arith) (omega arith) (λ k d l h. front (suc k) d (omega arith) (omega arith)) (λ k d l h. middle (suc k) d (omega arith) (omega arith)) (λ k d l h. back (suc k) d (omega arith) (omega arith))
      ∙ sym (leaves (t x) x (filter t xs) (filter t xs) (front 0 x (omega arith) (omega arith)) refl)

-- ---- one test after another

kept_again : {A : Type 0} (p : A → Bool) (b : Bool) (x : A) (xs ys : List A) → (p x ≡ true → b ≡ true) → filter p xs ≡ filter p ys → filter p (cond b (x ∷ xs) xs) ≡ filter p (x ∷ ys)
kept_again p true x xs ys f e = ap (λ zs. cond (p x) (x ∷ zs) zs) e
kept_again {A} p false x xs ys f e = e ∙ never (p x) f
  where
    never : (b : Bool) → (b ≡ true → false ≡ true) → filter p ys ≡ cond b (x ∷ filter p ys) (filter p ys)
    never true g = absurd (false≢true (g refl))
    never false g = refl

-- a test, after one that all who pass it pass
pub filter_twice : {A : Type 0} (p t : A → Bool) → ((x : A) → p x ≡ true → t x ≡ true) → (xs : List A) → filter p (filter t xs) ≡ filter p xs
filter_twice p t f [] = refl
filter_twice p t f (x ∷ xs) = kept_again p (t x) x (filter t xs) xs (f x) (filter_twice p t f xs)

any_if : {A : Type 0} (p : A → Bool) (b : Bool) (x : A) (xs : List A) → list_any p (cond b (x ∷ xs) xs) ≡ ((b && p x) || list_any p xs)
any_if p true x xs = refl
any_if p false x xs = refl

pub any-filter : {A : Type 0} (p t : A → Bool) (xs : List A) → list_any p (filter t xs) ≡ list_any (λ x. t x && p x) xs
any-filter p t [] = refl
any-filter p t (x ∷ xs) = any_if p (t x) x (filter t xs) ∙ ap (λ b. (t x && p x) || b) (any-filter p t xs)

-- ---- what each element passes

pub each_joined : {A : Type 0} (p : A → Bool) (xs ys : List A) → list_all p xs ≡ true → list_all p ys ≡ true → list_all p (xs ++ ys) ≡ true
each_joined p xs ys f g = list_all-append p xs ys ∙ and_from (list_all p xs) (list_all p ys) f g

pub each_weaker : {A : Type 0} (p q : A → Bool) → ((x : A) → p x ≡ true → q x ≡ true) → (xs : List A) → list_all p xs ≡ true → list_all q xs ≡ true
each_weaker p q f [] e = refl
each_weaker p q f (x ∷ xs) e = let h = and_parts (p x) (list_all p xs) e in and_from (q x) (list_all q xs) (f x h.0) (each_weaker p q f xs h.1)
