-- Lists, runs and bytes.
use Rattle.std.proofs.Common.{◌≡◌, ℕ, ◌≤◌, Bool, true, false, cond, not, ◌||◌, eqb, List, [], ◌∷◌, ◌++◌, length, take, drop, Option, Some, refl, sym, ap, ◌∙◌, subst, arith}
use Rattle.std.specs.List.{list_all}
use Rattle.std.proofs.lemmas.Bool.{eqb-true, and_parts}
use Rattle.std.proofs.lemmas.List.{take_at, drop_at}
use Rattle.std.proofs.lemmas.Option.{same_Some}
use Rattle.std.proofs.Math.Bool.{or-true}
use Rattle.iris.specs.Iri.{is_letter, is_digit}
use Rattle.iris.specs.Runs.{run_of, rest_of, IsRun, RunsAreLongest}
use Rattle.iris.proofs.ByteLaws.{by_test, by_trial, digit_small}
use Rattle.lexer.specs.Names.{is_name_byte, is_local_start, is_variable_start, is_variable_byte}

-- ---- lists

pub cut_same : (xs ys us vs : List ℕ) → xs ++ us ≡ ys ++ vs → length xs ≡ length ys → (xs ≡ ys) × (us ≡ vs)
cut_same xs ys us vs e n = (
  sym (take_at xs us (length xs) refl) ∙ ap (take (length xs)) e ∙ ap (λ k. take k (ys ++ vs)) n ∙ take_at ys vs (length ys) refl,
  sym (drop_at xs us (length xs) refl) ∙ ap (drop (length xs)) e ∙ ap (λ k. drop k (ys ++ vs)) n ∙ drop_at ys vs (length ys) refl,
)

pub run_longer : (p : ℕ → Bool) (xs rest : List ℕ) → list_all p xs ≡ true → length xs ≤ length (run_of p (xs ++ rest))
run_longer p [] rest all = omega arith
run_longer p (x ∷ xs) rest all =
    let h = and_parts (p x) (list_all p xs) all in
    let below = run_longer p xs rest h.1 in
    rw h.0 (omega (arith, below))

pub all_weaker : (p q : ℕ → Bool) → ((b : ℕ) → p b ≡ true → q b ≡ true) → (xs : List ℕ) → list_all p xs ≡ true → list_all q xs ≡ true
all_weaker p q weaker [] all = refl
all_weaker p q weaker (x ∷ xs) all = let h = and_parts (p x) (list_all p xs) all in rw (weaker x h.0) (all_weaker p q weaker xs h.1)

-- ---- tests

pub picked_by : {A : Type 0} (P : A → Type 0) (t : Bool) (a : A) (o : Option A) (x : A) → cond t (Some a) o ≡ Some x → (t ≡ true → P a) → (o ≡ Some x → P x) → P x
picked_by P t a o x e here later = by_test t (Some a) o (Some x) e (λ h f. subst P (same_Some a x f) (here h)) (λ h f. later f)

pub picked : {A : Type 0} (P : A → Type 0) (b n : ℕ) (a : A) (o : Option A) (x : A) → cond (eqb b n) (Some a) o ≡ Some x → (b ≡ n → P a) → (o ≡ Some x → P x) → P x
picked P b n a o x e here later = picked_by P (eqb b n) a o x e (λ h. here (eqb-true b n h)) later

-- ---- bytes

pub digit_no_letter : (b : ℕ) → is_digit b ≡ true → is_letter b ≡ false
digit_no_letter b e =
    let other : not (is_letter b) ≡ true = by_trial is_digit (λ x. not (is_letter x)) refl b (digit_small b e) e in
    elim (is_letter b) as (λ t. not t ≡ true → t ≡ false) [ true ↦ λ h. sym h | false ↦ λ h. refl ] other

pub letter_name : (b : ℕ) → is_letter b ≡ true → is_name_byte b ≡ true
letter_name b h = ap (λ t. ((t || is_digit b) || eqb b 95) || eqb b 45) h

pub digit_name : (b : ℕ) → is_digit b ≡ true → is_name_byte b ≡ true
digit_name b h = ap (λ t. (t || eqb b 95) || eqb b 45) (ap (λ t. is_letter b || t) h ∙ or-true (is_letter b))

pub start_name : (b : ℕ) → is_local_start b ≡ true → is_name_byte b ≡ true
start_name b h = ap (λ t. t || eqb b 45) h

pub start_variable : (b : ℕ) → is_variable_start b ≡ true → is_variable_byte b ≡ true
start_variable b h = elim (is_letter b) as (λ t. (t || eqb b 95) ≡ true → ((t || is_digit b) || eqb b 95) ≡ true) [ true ↦ λ h. refl | false ↦ λ h. ap (λ t. is_digit b || t) h ∙ or-true (is_digit b) ] h

-- ---- by the law of runs

module _ (runs : RunsAreLongest) where
  is_run : (p : ℕ → Bool) (xs : List ℕ) → IsRun p xs (run_of p xs) (rest_of p xs)
  is_run p xs = (runs p xs (run_of p xs) (rest_of p xs)).0 (refl, refl)

  pub run-rest : (p : ℕ → Bool) (xs : List ℕ) → run_of p xs ++ rest_of p xs ≡ xs
  run-rest p xs = let is = is_run p xs in sym is.cut

  pub all-run : (p : ℕ → Bool) (xs : List ℕ) → list_all p (run_of p xs) ≡ true
  all-run p xs = let is = is_run p xs in is.all

  -- a run, where what follows it begins with a byte that doesn't pass
  pub run_until : (p : ℕ → Bool) (front : List ℕ) (b : ℕ) (rest : List ℕ) → list_all p front ≡ true → p b ≡ false → (run_of p (front ++ b ∷ rest) ≡ front) × (rest_of p (front ++ b ∷ rest) ≡ b ∷ rest)
  run_until p front b rest all stops = (runs p (front ++ b ∷ rest) front (b ∷ rest)).1 (record { cut = refl; all = all; stops = stops })
