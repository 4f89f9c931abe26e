-- Integers and their lexical forms.
use Rattle.std.proofs.Common.{◌≡◌, ℕ, zero, suc, ◌-◌, ◌<◌, ◌≤◌, ◌^◌, Bool, true, false, List, [], ◌∷◌, length, map, ℤ, pos, negsuc, neg_ℤ, refl, sym, ap, ◌∙◌, arith, rules}
use Rattle.std.specs.Prelude.{◌==◌, ◌&&◌, ◌||◌, not, Ok, Err, Result, if◌then◌else◌}
use Rattle.std.specs.List.{list_all}
use Rattle.std.specs.Result.{OkIff}
use Rattle.std.specs.Int.Digits.{number_from_digits, number_from_digits_after}
use Rattle.std.specs.Int.RustNames.{FitsSigned}
use Rattle.std.specs.Fmt.{decimal, signed_decimal}
use Rattle.std.specs.Str.Parse.{ParsesSigned}
use Rattle.std.specs.Cmp.Lexicographic.{pointwise, texts_ties}
use Rattle.std.proofs.lemmas.Bool.Decides.{nat_tests}
use Rattle.std.proofs.lemmas.Bool.{false≢true}
use Rattle.std.proofs.lemmas.Str.Parse.{IsNumeralModel, numerals_by_fold, parse_signed_minus, parse_signed_plain, parse_signed_plus}
use Rattle.std.proofs.lemmas.Fmt.{digits_decimal, digits_value-decimal, decimal_nonempty}
use Rattle.std.proofs.lemmas.Int.{ints}
use lib.Dec.{eqb}
use mir.Syntax.{w64}
use Rattle.values.specs.Readings.{Reading, Number, TooLarge, IllFormed, is_text, is_digit, fits_64, bounded, digits_read, integer_read}
use Rattle.expr.specs.Numerals.{without_sign, is_numeral}

pub is_text_by_bytes : (a b : List ℕ) → pointwise eqb a b ≡ is_text a b
is_text_by_bytes a b = texts_ties a b

-- the number that digits write
abbrev value : List ℕ → ℕ
value ds = number_from_digits 10 (map (λ d. d - 48) ds)

own : IsNumeralModel (λ ds. list_all is_digit ds ≡ true) value
own = numerals_by_fold _ (search rules) (λ n ds. number_from_digits_after 10 n (map (λ d. d - 48) ds)) (search rules)

-- what is read where a text's digits parse so
abbrev pub parsed : {E : Type 0} → Result ℤ E → Reading
parsed (Ok z) = Number z
parsed (Err e) = TooLarge

parsed_bounded : {E : Type 0} (r : Result ℤ E) (Q : Type 0) (z : ℤ) → OkIff r Q z → (Q → fits_64 z ≡ true) → (fits_64 z ≡ true → Q) → parsed r ≡ bounded z
parsed_bounded (Ok x) Q z h to from = ap Number h.1 ∙ sym (ap (λ b. if b then Number z else TooLarge) (to h.0))
parsed_bounded (Err e) Q z h to from = cases (fits_64 z) refl
  where
    cases : (b : Bool) → fits_64 z ≡ b → TooLarge ≡ (if b then Number z else TooLarge)
    cases true e = absurd (h (from e))
    cases false e = refl

pub pos_fits : (n : ℕ) → n < 2 ^ 63 → fits_64 (pos n) ≡ true
pos_fits n h = grind (arith, nat_tests)

pub fits_pos : (n : ℕ) → fits_64 (pos n) ≡ true → n < 2 ^ 63
fits_pos n h = grind (arith, nat_tests)

pub negative_fits : (n : ℕ) → n ≤ 2 ^ 63 → fits_64 (neg_ℤ (pos n)) ≡ true
negative_fits zero h = refl
negative_fits (suc n) h = grind (arith, nat_tests)

pub fits_negative : (n : ℕ) → fits_64 (neg_ℤ (pos n)) ≡ true → n ≤ 2 ^ 63
fits_negative zero h = omega arith
fits_negative (suc n) h = grind (arith, nat_tests)

-- ---- what an integer's form is read as

suc_nonzero : (n : ℕ) → (suc n == 0) ≡ false
suc_nonzero n = grind (arith, nat_tests)

numeral_cons : (c : ℕ) (cs : List ℕ) → list_all is_digit (c ∷ cs) ≡ is_numeral (c ∷ cs)
numeral_cons c cs = ap (λ b. not b && list_all is_digit (c ∷ cs)) (sym (suc_nonzero (length cs)))

numeral_digits : (sign : ℤ → ℤ) (ds : List ℕ) → is_numeral ds ≡ true → digits_read sign ds ≡ bounded (sign (pos (value ds)))
numeral_digits sign [] h = absurd (let d : false ≡ true = h in (cc))
numeral_digits sign (c ∷ cs) h = ap (λ b. if b then bounded (sign (pos (value (c ∷ cs)))) else IllFormed) (numeral_cons c cs ∙ h)

no_digits : (sign : ℤ → ℤ) (ds : List ℕ) → is_numeral ds ≡ false → digits_read sign ds ≡ IllFormed
no_digits sign [] h = refl
no_digits sign (c ∷ cs) h = ap (λ b. if b then bounded (sign (pos (value (c ∷ cs)))) else IllFormed) (numeral_cons c cs ∙ h)

-- by the first byte, whether it is a plus or a minus
abbrev pub read_by : (plus minus : Bool) (c : ℕ) (cs : List ℕ) → Reading
read_by plus minus c cs =
    if plus then digits_read (λ z. z) cs else if minus then digits_read neg_ℤ cs else digits_read (λ z. z) (c ∷ cs)

no_numeral_by : (plus minus : Bool) (c : ℕ) (cs : List ℕ) → is_numeral (if plus || minus then cs else c ∷ cs) ≡ false → read_by plus minus c cs ≡ IllFormed
no_numeral_by true minus c cs h = no_digits (λ z. z) cs h
no_numeral_by false true c cs h = no_digits neg_ℤ cs h
no_numeral_by false false c cs h = no_digits (λ z. z) (c ∷ cs) h

pub no_numeral : (bs : List ℕ) → is_numeral (without_sign bs) ≡ false → IllFormed ≡ integer_read bs
no_numeral [] h = refl
no_numeral (c ∷ cs) h = sym (no_numeral_by (c == 43) (c == 45) c cs h)

nonempty : (ds : List ℕ) → is_numeral ds ≡ true → (list_all is_digit ds ≡ true) × (0 < length ds)
nonempty [] h = absurd (let d : false ≡ true = h in (cc))
nonempty (c ∷ cs) h = (numeral_cons c cs ∙ h, search rules)

numeral_by : {E : Type 0} (plus minus : Bool) (c : ℕ) (cs : List ℕ) (r : Result ℤ E) → (c == 43) ≡ plus → (c == 45) ≡ minus → is_numeral (if plus || minus then cs else c ∷ cs) ≡ true → ParsesSigned w64 10 (c ∷ cs) r → parsed r ≡ read_by plus minus c cs
numeral_by true minus c cs r p m h parses =
    let is_plus : c ≡ 43 = grind (arith, nat_tests) in
    let parts = nonempty cs h in
    parsed_bounded r _ _ (parse_signed_plus own w64 (c ∷ cs) r parses is_plus) (λ q. pos_fits (value cs) q.2) (λ fits. (parts.0, parts.1, fits_pos (value cs) fits))
    ∙ sym (numeral_digits (λ z. z) cs h)
numeral_by false true c cs r p m h parses =
    let is_minus : c ≡ 45 = grind (arith, nat_tests) in
    let parts = nonempty cs h in
    parsed_bounded r _ _ (parse_signed_minus own w64 (c ∷ cs) r parses is_minus) (λ q. negative_fits (value cs) q.2) (λ fits. (parts.0, parts.1, fits_negative (value cs) fits))
    ∙ sym (numeral_digits neg_ℤ cs h)
numeral_by false false c cs r p m h parses =
    let parts = nonempty (c ∷ cs) h in
    parsed_bounded r _ _ (parse_signed_plain own w64 (c ∷ cs) r parses (λ e. grind (arith, nat_tests)) (λ e. grind (arith, nat_tests)))
    (λ q. pos_fits (value (c ∷ cs)) q.2) (λ fits. (parts.0, parts.1, fits_pos (value (c ∷ cs)) fits))
    ∙ sym (numeral_digits (λ z. z) (c ∷ cs) h)

pub numeral_parsed : {E : Type 0} (bs : List ℕ) (r : Result ℤ E) → is_numeral (without_sign bs) ≡ true → ParsesSigned w64 10 bs r → parsed r ≡ integer_read bs
numeral_parsed [] r h parses = absurd (let d : false ≡ true = h in (cc))
numeral_parsed (c ∷ cs) r h parses = numeral_by (c == 43) (c == 45) c cs r refl refl h parses

-- ---- the shortest form of an integer

unsigned_read : (ds : List ℕ) → list_all is_digit ds ≡ true → 0 < length ds → integer_read ds ≡ bounded (pos (value ds))
unsigned_read [] h some = absurd (omega arith)
unsigned_read (c ∷ cs) h some =
    let plus : (c == 43) ≡ false = grind (arith, nat_tests) in
    let minus : (c == 45) ≡ false = grind (arith, nat_tests) in
    ap (λ b. read_by b (c == 45) c cs) plus ∙ ap (λ b. read_by false b c cs) minus ∙ numeral_digits (λ z. z) (c ∷ cs) (sym (numeral_cons c cs) ∙ h)

numeral_of : (ds : List ℕ) → list_all is_digit ds ≡ true → 0 < length ds → is_numeral ds ≡ true
numeral_of [] h some = absurd (omega arith)
numeral_of (c ∷ cs) h some = sym (numeral_cons c cs) ∙ h

fits_bounded : (z : ℤ) → fits_64 z ≡ true → bounded z ≡ Number z
fits_bounded z h = ap (λ b. if b then Number z else TooLarge) h

pub integer_read_of : (z : ℤ) → FitsSigned w64 z → Number z ≡ integer_read (signed_decimal z)
integer_read_of (pos n) fits =
    let small : n < 2 ^ 63 = omega (arith, ints) in
    sym (unsigned_read (decimal n) (digits_decimal own n (omega arith)) (decimal_nonempty n (omega arith))
    ∙ ap (λ m. bounded (pos m)) (digits_value-decimal own n (omega arith)) ∙ fits_bounded (pos n) (pos_fits n small))
integer_read_of (negsuc n) fits =
    let small : n < 2 ^ 63 = omega (arith, ints) in
    sym (numeral_digits neg_ℤ (decimal (suc n)) (numeral_of (decimal (suc n)) (digits_decimal own (suc n) (omega arith)) (decimal_nonempty (suc n) (omega arith)))
    ∙ ap (λ m. bounded (neg_ℤ (pos m))) (digits_value-decimal own (suc n) (omega arith)) ∙ fits_bounded (negsuc n) (negative_fits (suc n) (omega arith)))
