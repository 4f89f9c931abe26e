-- Numbers that are written are read.
use Rattle.std.specs.Prelude.{ℕ, zero, suc, Bool, ◌==◌, ◌<◌, ◌+◌, ◌*◌, ◌-◌, ◌/◌, ◌%◌, ◌^◌, codes}
use Rattle.std.proofs.Common.{◌≡◌, true, List, [], ◌∷◌, ◌++◌, Option, Some, None, refl, ap, ◌∙◌, length, drop, arith}
use Rattle.std.specs.List.{list_all}
use Rattle.std.specs.Fmt.{decimal}
use Rattle.std.proofs.lemmas.Bool.{eqb-true, lt-ltb, and_parts, and_from}
use Rattle.std.proofs.lemmas.Bool.Decides.{nat_tests}
use Rattle.std.proofs.lemmas.List.Folds.{list_all-append}
use Rattle.std.proofs.lemmas.Fmt.{decimal_by_steps}
use Rattle.iris.specs.Iri.{is_digit}
use Rattle.iris.specs.Bracketed.{◌>>=◌}
use Rattle.journal.specs.Text.{padded, worker_word, request_word}
use Rattle.journal.specs.Words.{with_digit, number_from, number_of, number_below}

-- ---- digits

is_digit_of : (n : ℕ) → n < 10 → is_digit (48 + n) ≡ true
is_digit_of n low = grind (arith, nat_tests)

pub all_joined : (p : ℕ → Bool) (xs ys : List ℕ) → list_all p xs ≡ true → list_all p ys ≡ true → list_all p (xs ++ ys) ≡ true
all_joined p xs ys a b = list_all-append p xs ys ∙ and_from (list_all p xs) (list_all p ys) a b

pub decimal_digits : (n : ℕ) → n < 2 ^ 64 → list_all is_digit (decimal n) ≡ true
decimal_digits =
    decimal_by_steps (λ m ds. list_all is_digit ds ≡ true) (λ m low. and_from (is_digit (48 + m)) true (is_digit_of m low) refl)
    (λ m ds high ih. all_joined is_digit ds ((48 + m % 10) ∷ []) ih (and_from (is_digit (48 + m % 10)) true (is_digit_of (m % 10) (omega arith)) refl))

all_dropped : (p : ℕ → Bool) (k : ℕ) (xs : List ℕ) → list_all p xs ≡ true → list_all p (drop k xs) ≡ true
all_dropped p zero xs e = e
all_dropped p (suc k) [] e = refl
all_dropped p (suc k) (x ∷ xs) e = all_dropped p k xs (and_parts (p x) (list_all p xs) e).1

padded_digits : (zeros : List ℕ) (n : ℕ) → list_all is_digit zeros ≡ true → n < 2 ^ 64 → list_all is_digit (padded zeros n) ≡ true
padded_digits zeros n e small = all_joined is_digit (drop (length (decimal n)) zeros) (decimal n) (all_dropped is_digit (length (decimal n)) zeros e) (decimal_digits n small)

pub worker_digits : (n : ℕ) → n < 64 → list_all is_digit (worker_word n) ≡ true
worker_digits n low = padded_digits (codes "00") n refl (omega arith)

pub request_digits : (n : ℕ) → n < 10000 → list_all is_digit (request_word n) ≡ true
request_digits n low = padded_digits (codes "0000") n refl (omega arith)

-- ---- numbers

from-append : (n : ℕ) (xs ys : List ℕ) → number_from n (xs ++ ys) ≡ (number_from n xs >>= λ m. number_from m ys)
from-append n [] ys = refl
from-append n (b ∷ xs) ys =
    elim (with_digit n b) as (λ o. (o >>= λ m. number_from m (xs ++ ys)) ≡ ((o >>= λ m. number_from m xs) >>= λ m. number_from m ys)) [
      | None ↦ refl
      | Some m ↦ from-append m xs ys
    ]

digit_then : (n d : ℕ) → d < 10 → 10 * n + d < 2 ^ 64 → with_digit n (48 + d) ≡ Some (10 * n + d)
digit_then n d low fits =
    let same : 10 * n + (48 + d - 48) ≡ 10 * n + d = omega arith in
    rw (is_digit_of d low, same, lt-ltb (10 * n + d) (2 ^ 64) fits) refl

one_digit : (n d : ℕ) → d < 10 → 10 * n + d < 2 ^ 64 → number_from n ((48 + d) ∷ []) ≡ Some (10 * n + d)
one_digit n d low fits = ap (λ (o : Option ℕ). o >>= λ m. number_from m []) (digit_then n d low fits)

decimal_read : (n : ℕ) → n < 2 ^ 64 → number_from 0 (decimal n) ≡ Some n
decimal_read n small =
    decimal_by_steps (λ m ds. m < 2 ^ 64 → number_from 0 ds ≡ Some m) (λ m low fits. one_digit 0 m low (omega arith) ∙ ap Some (omega arith))
    (λ m ds high ih fits.
    from-append 0 ds ((48 + m % 10) ∷ []) ∙ ap (λ (o : Option ℕ). o >>= λ k. number_from k ((48 + m % 10) ∷ [])) (ih (omega arith))
    ∙ one_digit (m / 10) (m % 10) (omega arith) (omega arith) ∙ ap Some (omega arith)) n small small

pub decimal_is_read : (n : ℕ) → n < 2 ^ 64 → number_of (decimal n) ≡ Some n
unfolding number_of
decimal_is_read = decimal_read

zero_first : (b : ℕ) (ds : List ℕ) → (b == 48) ≡ true → number_from 0 (b ∷ ds) ≡ number_from 0 ds
zero_first b ds e = rw (eqb-true b 48 e) refl

-- zeros in front change nothing
zeros_read : (k : ℕ) (zeros ds : List ℕ) → list_all (λ b. b == 48) zeros ≡ true → number_from 0 (drop k zeros ++ ds) ≡ number_from 0 ds
zeros_read zero [] ds e = refl
zeros_read zero (b ∷ zeros) ds e =
    let h = and_parts (b == 48) (list_all (λ b. b == 48) zeros) e in
    zero_first b (zeros ++ ds) h.0 ∙ zeros_read zero zeros ds h.1
zeros_read (suc k) [] ds e = refl
zeros_read (suc k) (b ∷ zeros) ds e = zeros_read k zeros ds (and_parts (b == 48) (list_all (λ b. b == 48) zeros) e).1

below_read : (limit n : ℕ) (ds : List ℕ) → number_of ds ≡ Some n → n < limit → number_below limit ds ≡ Some n
below_read limit n ds e low = rw (e, lt-ltb n limit low) refl

padded_read : (zeros : List ℕ) (n : ℕ) → list_all (λ b. b == 48) zeros ≡ true → n < 2 ^ 64 → number_of (padded zeros n) ≡ Some n
unfolding number_of
padded_read zeros n e small = zeros_read (length (decimal n)) zeros (decimal n) e ∙ decimal_read n small

pub worker_is_read : (n : ℕ) → n < 64 → number_below 64 (worker_word n) ≡ Some n
worker_is_read n low = below_read 64 n (worker_word n) (padded_read (codes "00") n refl (omega arith)) low

pub request_is_read : (n : ℕ) → n < 10000 → number_below 10000 (request_word n) ≡ Some n
request_is_read n low = below_read 10000 n (request_word n) (padded_read (codes "0000") n refl (omega arith)) low

pub part_is_read : (n : ℕ) → n < 2 ^ 32 → number_below (2 ^ 32) (decimal n) ≡ Some n
part_is_read n low = below_read (2 ^ 32) n (decimal n) (decimal_is_read n (omega arith)) low
