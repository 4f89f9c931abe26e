-- Runs, as code finds them by a position, and as a grammar cuts them.
use Rattle.std.proofs.Common.{◌≡◌, ℕ, ◌+◌, Bool, true, false, cond, List, [], ◌∷◌, ◌++◌, take, drop, refl, sym, ap, ◌∙◌, subst}
use Rattle.std.specs.List.{list_all, prefix_len}
use Rattle.std.proofs.lemmas.Bool.{and_parts}
use Rattle.std.proofs.Math.Numerals.{one-add}
use Rattle.iris.specs.Runs.{run_of, rest_of, Stops, RunsAreLongest}

-- the front and what follows are the text
pub run-rest : (p : ℕ → Bool) (xs : List ℕ) → run_of p xs ++ rest_of p xs ≡ xs
run-rest p [] = refl
run-rest p (x ∷ xs) = elim (p x) as (λ b. cond b (x ∷ run_of p xs) [] ++ cond b (rest_of p xs) (x ∷ xs) ≡ x ∷ xs) [ true ↦ ap (λ (r : List ℕ). x ∷ r) (run-rest p xs) | false ↦ refl ]

pub take-prefix : (p : ℕ → Bool) (xs : List ℕ) → take (prefix_len p xs) xs ≡ run_of p xs
take-prefix p [] = refl
take-prefix p (x ∷ xs) = elim (p x) as (λ b. take (cond b (1 + prefix_len p xs) 0) (x ∷ xs) ≡ cond b (x ∷ run_of p xs) []) [ true ↦ ap (λ n. take n (x ∷ xs)) (one-add (prefix_len p xs)) ∙ ap (λ (r : List ℕ). x ∷ r) (take-prefix p xs) | false ↦ refl ]

pub drop-prefix : (p : ℕ → Bool) (xs : List ℕ) → drop (prefix_len p xs) xs ≡ rest_of p xs
drop-prefix p [] = refl
drop-prefix p (x ∷ xs) = elim (p x) as (λ b. drop (cond b (1 + prefix_len p xs) 0) (x ∷ xs) ≡ cond b (rest_of p xs) (x ∷ xs)) [ true ↦ ap (λ n. drop n (x ∷ xs)) (one-add (prefix_len p xs)) ∙ drop-prefix p xs | false ↦ refl ]

pub all-run : (p : ℕ → Bool) (xs : List ℕ) → list_all p (run_of p xs) ≡ true
all-run p [] = refl
all-run p (x ∷ xs) = elim (p x) as (λ b. p x ≡ b → list_all p (cond b (x ∷ run_of p xs) []) ≡ true) [ true ↦ λ e. rw e (all-run p xs) | false ↦ λ e. refl ] refl

pub rest-stops : (p : ℕ → Bool) (xs : List ℕ) → Stops p (rest_of p xs)
rest-stops p [] = tt
rest-stops p (x ∷ xs) = elim (p x) as (λ b. p x ≡ b → Stops p (cond b (rest_of p xs) (x ∷ xs))) [ true ↦ λ e. rest-stops p xs | false ↦ λ e. e ] refl

-- the longest front that passes is the one after which the text stops
pub run-is : (p : ℕ → Bool) (front rest : List ℕ) → list_all p front ≡ true → Stops p rest → run_of p (front ++ rest) ≡ front
run-is p [] [] all stop = refl
run-is p [] (x ∷ rest) all stop = rw stop refl
run-is p (x ∷ front) rest all stop = let e = and_parts (p x) (list_all p front) all in rw (e.0) (ap (λ (r : List ℕ). x ∷ r) (run-is p front rest e.1 stop))

pub rest-is : (p : ℕ → Bool) (front rest : List ℕ) → list_all p front ≡ true → Stops p rest → rest_of p (front ++ rest) ≡ rest
rest-is p [] [] all stop = refl
rest-is p [] (x ∷ rest) all stop = rw stop refl
rest-is p (x ∷ front) rest all stop = let e = and_parts (p x) (list_all p front) all in rw (e.0) (rest-is p front rest e.1 stop)

pub runs_are_longest : RunsAreLongest
runs_are_longest p text front rest = (
  λ same. record {
    cut = sym (run-rest p text) ∙ (λ i. same.0 i ++ same.1 i);
    all = subst (λ (bs : List ℕ). list_all p bs ≡ true) same.0 (all-run p text);
    stops = subst (Stops p) same.1 (rest-stops p text);
  },
  λ is. (ap (run_of p) is.cut ∙ run-is p front rest is.all is.stops, ap (rest_of p) is.cut ∙ rest-is p front rest is.all is.stops),
)

pub ruleset cuts = (take-prefix, drop-prefix)
