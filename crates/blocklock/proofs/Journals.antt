-- Journals that go on from one another, and lists of views.
use Rattle.std.proofs.Common.{◌≡◌, ◌≢◌, ℕ, zero, suc, ◌+◌, ◌<◌, eqb, ne_eqb, cond, Bool, true, false, List, [], ◌∷◌, ◌++◌, length, drop, set, refl, sym, ap, subst, ◌∙◌, ◌⊎◌, inl, inr, ⊎_elim, arith, append_assoc, append-nil}
use Rattle.std.proofs.lemmas.Bool.{eqb-true}
use Rattle.std.proofs.Common.{All, Some}
use Rattle.std.specs.Prelude.{slice_get}
use Rattle.std.proofs.lemmas.List.Elements.{All-push, All-append, All-drop, filter_passes}
use mathlib.Core.Logic.{dite}
use native.Mathlib.Decide.{ℕ_discrete}
use mathlib.Core.Option.{some, some-injective, some-ne-none}
use lib.ListN.{get_elem?}
use Rattle.blocklock.specs.History.{of_worker, AreBelow, BeginsWith}

module _ {E : Type 0} (worker_of : E → ℕ) where
  none_step : (v w : ℕ) (x : E) (rest : List E) → of_worker worker_of w rest ≡ [] → v ≢ w → (b : Bool) → eqb (worker_of x) v ≡ b → of_worker worker_of w (cond b (x ∷ rest) rest) ≡ []
  none_step v w x rest none apart true is = rw (ne_eqb (worker_of x) w (λ e. apart (sym (eqb-true (worker_of x) v is) ∙ e))) none
  none_step v w x rest none apart false is = none

  pub of_worker-none : (v w : ℕ) (xs : List E) → v ≢ w → of_worker worker_of w (of_worker worker_of v xs) ≡ []
  of_worker-none v w [] apart = refl
  of_worker-none v w (x ∷ xs) apart = none_step v w x (of_worker worker_of v xs) (of_worker-none v w xs apart) apart (eqb (worker_of x) v) refl

  -- entries of one worker have none of another
  pub none_of_others : (v w : ℕ) (xs : List E) → of_worker worker_of v xs ≡ xs → v ≢ w → of_worker worker_of w xs ≡ []
  none_of_others v w xs all apart = subst (λ l. of_worker worker_of w l ≡ []) all (of_worker-none v w xs apart)

  pub none_below : (n : ℕ) → AreBelow worker_of n []
  none_below n k d less = absurd (omega arith)

  -- entries of one worker who has a seat
  pub one_below : (w n : ℕ) (xs : List E) → of_worker worker_of w xs ≡ xs → w < n → AreBelow worker_of n xs
  one_below w n xs all below =
      subst (AreBelow worker_of n) all
      (λ k d less. let is = eqb-true _ w (filter_passes (λ e. eqb (worker_of e) w) xs k d less) in omega (arith, is, below))

  pub more_below : (n : ℕ) (xs ys : List E) → AreBelow worker_of n xs → AreBelow worker_of n ys → AreBelow worker_of n (xs ++ ys)
  more_below n xs ys a b = All-append (λ e. worker_of e < n) xs ys a b

  -- entries that are added behind a journal's start
  pub added_below : (n start : ℕ) (xs ys : List E) → AreBelow worker_of n (drop start xs) → AreBelow worker_of n ys → AreBelow worker_of n (drop start (xs ++ ys))
  added_below n zero xs ys a b = more_below n xs ys a b
  added_below n (suc start) [] ys a b = All-drop (λ e. worker_of e < n) (suc start) ys b
  added_below n (suc start) (x ∷ xs) ys a b = added_below n start xs ys a b

module _ {E : Type 0} where
  abbrev pub begins_refl : (xs : List E) → BeginsWith xs xs
  begins_refl xs = ([], sym (append-nil xs))

  abbrev pub begins_is : (xs ys : List E) → xs ≡ ys → BeginsWith xs ys
  begins_is xs ys e = ([], e ∙ sym (append-nil ys))

  -- a journal that goes on from one that goes on from a third
  abbrev pub begins_further : (xs ys zs more : List E) → BeginsWith ys zs → xs ≡ ys ++ more → BeginsWith xs zs
  begins_further xs ys zs more b e = (b.0 ++ more, e ∙ (ap (λ l. l ++ more) b.1 ∙ append_assoc zs b.0 more))

module _ {A : Type 0} where
  pub at_pushed : (l : List A) (a b : A) (j : ℕ) → get_elem? (l ++ a ∷ []) j ≡ some b → (get_elem? l j ≡ some b) ⊎ ((j ≡ length l) × (a ≡ b))
  at_pushed [] a b zero e = inr (refl, some-injective a b e)
  at_pushed [] a b (suc j) e = absurd (some-ne-none b (sym e))
  at_pushed (x ∷ xs) a b zero e = inl e
  at_pushed (x ∷ xs) a b (suc j) e = ⊎_elim (λ t. inl t) (λ t. inr (ap suc t.0, t.1)) (at_pushed xs a b j e)

  pub set_there : (l : List A) (i : ℕ) (a b : A) → get_elem? l i ≡ some b → get_elem? (set l i a) i ≡ some a
  set_there [] i a b e = absurd (some-ne-none b (sym e))
  set_there (x ∷ xs) zero a b e = refl
  set_there (x ∷ xs) (suc i) a b e = set_there xs i a b e

  -- of a list that ends with x
  pub all_from : (P : A → Type 0) (xs all : List A) (x : A) → all ≡ xs ++ x ∷ [] → All P xs → P x → All P all
  all_from P xs all x e h last = subst (All P) (sym e) (All-push P xs x h last)

  slice_get_last : (l : List A) (x : A) → slice_get (l ++ x ∷ []) (length l) ≡ Some x
  slice_get_last [] x = refl
  slice_get_last (y ∷ ys) x = slice_get_last ys x

  slice_get_left : (l : List A) (x : A) (k : ℕ) → k < length l → slice_get (l ++ x ∷ []) k ≡ slice_get l k
  slice_get_left [] x k h = absurd (omega arith)
  slice_get_left (y ∷ ys) x zero h = refl
  slice_get_left (y ∷ ys) x (suc k) h = slice_get_left ys x k (omega arith)

  -- each place is known, once one more was pushed
  pub known_push : (f : ℕ → A) (xs all : List A) (x : A) (n : ℕ) → all ≡ xs ++ x ∷ [] → length xs ≡ n → x ≡ f n
      → ((k : ℕ) → k < n → slice_get xs k ≡ Some (f k)) → (k : ℕ) → k < n + 1 → slice_get all k ≡ Some (f k)
  known_push f xs all x n e long is before k less =
      ap (λ (l : List A). slice_get l k) e
      ∙ dite (ℕ_discrete k (length xs))
      (λ (here : k ≡ length xs). ap (slice_get (xs ++ x ∷ [])) here ∙ (slice_get_last xs x ∙ (ap Some is ∙ ap (λ j. Some (f j)) (sym long ∙ sym here))))
      (λ other. slice_get_left xs x k (omega arith) ∙ before k (omega arith))
