-- What bytes pass which tests.
use Rattle.std.specs.Prelude.{ℕ, zero, suc, Bool, not, ◌&&◌, ◌||◌, ◌==◌, ◌<◌, ◌/◌, ◌%◌, nat_lt}
use Rattle.std.proofs.Common.{◌≡◌, true, false, cond, eqb, List, [], ◌∷◌, map, refl, ap, inl, inr, arith}
use Rattle.std.specs.List.{list_all}
use Rattle.std.specs.Char.{to_ascii_lowercase}
use Rattle.std.specs.Fmt.{digit_glyph, digits_onto, digits, decimal}
use Rattle.std.proofs.lemmas.Bool.{eqb-true, and_parts, and_from, or_cases, agree_below, agree_below_at}
use Rattle.std.proofs.lemmas.Bool.Decides.{nat_tests}
use Rattle.iris.specs.Iri.{is_iri_byte, is_digit}
use Rattle.iris.specs.Forms.{is_small_letter, InTag, start, first, dash, later, is_tag_from, is_tag, is_label_byte}
use Rattle.iris.proofs.ByteLaws.{test_ne}
use Rattle.nquads_lines.specs.Lines.{is_inner}

-- below 128
abbrev pub is_ascii : ℕ → Bool
is_ascii b = nat_lt b 128

-- what a tag is made of
abbrev pub is_low_byte : ℕ → Bool
is_low_byte b = is_small_letter b || is_digit b || (b == 45)

-- ---- tests of one byte, tried at each below 128

implied : (p q : Bool) → (not p || q) ≡ true → p ≡ true → q ≡ true
implied true q e h = e
implied false q e h = absurd cc

by_table : (p q : ℕ → Bool) (b : ℕ) → agree_below (λ x. not (p x) || q x) (λ x. true) 128 ≡ true → b < 128 → p b ≡ true → q b ≡ true
by_table p q b table low = implied (p b) (q b) (agree_below_at (λ x. not (p x) || q x) (λ x. true) 128 b table low)

label_low : (b : ℕ) → is_label_byte b ≡ true → b < 128
label_low b e = grind (arith, nat_tests)

low_low : (b : ℕ) → is_low_byte b ≡ true → b < 128
low_low b e = grind (arith, nat_tests)

pub is_lower : (b : ℕ) → is_low_byte b ≡ true → eqb (to_ascii_lowercase b) b ≡ true
is_lower b e = by_table is_low_byte (λ x. eqb (to_ascii_lowercase x) x) b refl (low_low b e) e

glyph_digit : (n : ℕ) → n < 10 → is_digit (digit_glyph false n) ≡ true
glyph_digit n low = agree_below_at (λ x. is_digit (digit_glyph false x)) (λ x. true) 10 n refl low

-- ---- of a list

-- ---- IRIs

-- ---- tags

small_low : (b : ℕ) → is_small_letter b ≡ true → is_low_byte b ≡ true
small_low b e = rw e refl

dash_low : (b : ℕ) → eqb b 45 ≡ true → is_low_byte b ≡ true
dash_low b e = ap is_low_byte (eqb-true b 45 e)

digit_low : (b : ℕ) → is_digit b ≡ true → is_low_byte b ≡ true
digit_low b e = by_table is_digit is_low_byte b refl (grind (arith, nat_tests)) e

part_low : (b : ℕ) → (is_small_letter b || is_digit b) ≡ true → is_low_byte b ≡ true
part_low b e = elim (or_cases (is_small_letter b) (is_digit b) e) as (λ _. is_low_byte b ≡ true) [ inl h ↦ small_low b h | inr h ↦ digit_low b h ]

low_more : (b : ℕ) (bs : List ℕ) → is_low_byte b ≡ true → list_all is_low_byte bs ≡ true → list_all is_low_byte (b ∷ bs) ≡ true
low_more b bs = and_from (is_low_byte b) (list_all is_low_byte bs)

tag_bytes_from : (s : InTag) (bs : List ℕ) → is_tag_from s bs ≡ true → list_all is_low_byte bs ≡ true
tag_bytes_from start [] e = absurd cc
tag_bytes_from start (b ∷ bs) e = let h = and_parts (is_small_letter b) (is_tag_from first bs) e in low_more b bs (small_low b h.0) (tag_bytes_from first bs h.1)
tag_bytes_from first [] e = refl
tag_bytes_from first (b ∷ bs) e =
    elim (or_cases (is_small_letter b && is_tag_from first bs) (eqb b 45 && is_tag_from dash bs) e) as (λ _. list_all is_low_byte (b ∷ bs) ≡ true) [
      | inl k ↦ let h = and_parts (is_small_letter b) (is_tag_from first bs) k in low_more b bs (small_low b h.0) (tag_bytes_from first bs h.1)
      | inr k ↦ let h = and_parts (eqb b 45) (is_tag_from dash bs) k in low_more b bs (dash_low b h.0) (tag_bytes_from dash bs h.1)
    ]
tag_bytes_from dash [] e = absurd cc
tag_bytes_from dash (b ∷ bs) e = let h = and_parts (is_small_letter b || is_digit b) (is_tag_from later bs) e in low_more b bs (part_low b h.0) (tag_bytes_from later bs h.1)
tag_bytes_from later [] e = refl
tag_bytes_from later (b ∷ bs) e =
    elim (or_cases ((is_small_letter b || is_digit b) && is_tag_from later bs) (eqb b 45 && is_tag_from dash bs) e) as (λ _. list_all is_low_byte (b ∷ bs) ≡ true) [
      | inl k ↦ let h = and_parts (is_small_letter b || is_digit b) (is_tag_from later bs) k in low_more b bs (part_low b h.0) (tag_bytes_from later bs h.1)
      | inr k ↦ let h = and_parts (eqb b 45) (is_tag_from dash bs) k in low_more b bs (dash_low b h.0) (tag_bytes_from dash bs h.1)
    ]

pub tag_bytes : (bs : List ℕ) → is_tag bs ≡ true → list_all is_low_byte bs ≡ true
tag_bytes bs e = tag_bytes_from start bs e

-- a tag stays as it is in lower case
pub lower_same : (bs : List ℕ) → list_all is_low_byte bs ≡ true → map to_ascii_lowercase bs ≡ bs
lower_same [] e = refl
lower_same (b ∷ bs) e =
    let h = and_parts (is_low_byte b) (list_all is_low_byte bs) e in
    let first : to_ascii_lowercase b ≡ b = eqb-true (to_ascii_lowercase b) b (is_lower b h.0) in
    let rest : map to_ascii_lowercase bs ≡ bs = lower_same bs h.1 in
    λ i. first i ∷ rest i

-- ---- ASCII bytes that end no line

abbrev pub is_ascii_inner : ℕ → Bool
is_ascii_inner b = is_ascii b && is_inner b

pub inner_label : (b : ℕ) → is_label_byte b ≡ true → is_ascii_inner b ≡ true
inner_label b e = by_table is_label_byte is_ascii_inner b refl (label_low b e) e

pub inner_low : (b : ℕ) → is_low_byte b ≡ true → is_ascii_inner b ≡ true
inner_low b e = by_table is_low_byte is_ascii_inner b refl (low_low b e) e

pub inner_iri : (b : ℕ) → is_iri_byte b ≡ true → is_inner b ≡ true
inner_iri b e = rw (test_ne is_iri_byte b 10 refl e, test_ne is_iri_byte b 13 refl e) refl

pub ascii_of_inner : (b : ℕ) → is_ascii_inner b ≡ true → is_ascii b ≡ true
ascii_of_inner b e = (and_parts (is_ascii b) (is_inner b) e).0

pub inner_of_inner : (b : ℕ) → is_ascii_inner b ≡ true → is_inner b ≡ true
inner_of_inner b e = (and_parts (is_ascii b) (is_inner b) e).1

-- ---- decimals

all_onto : (k n : ℕ) (acc : List ℕ) → list_all is_digit acc ≡ true → list_all is_digit (digits_onto k 10 false n acc) ≡ true
all_onto zero n acc e = e
all_onto (suc k) n acc e =
    let more : list_all is_digit (digit_glyph false (n % 10) ∷ acc) ≡ true = and_from (is_digit (digit_glyph false (n % 10))) (list_all is_digit acc) (glyph_digit (n % 10) (omega arith)) e in
    elim (eqb (n / 10) 0) as (λ t. list_all is_digit (cond t (digit_glyph false (n % 10) ∷ acc) (digits_onto k 10 false (n / 10) (digit_glyph false (n % 10) ∷ acc))) ≡ true) [
      | true ↦ more
      | false ↦ all_onto k (n / 10) (digit_glyph false (n % 10) ∷ acc) more
    ]

pub decimal_digits : (n : ℕ) → list_all is_digit (decimal n) ≡ true
unfolding digits
decimal_digits n = all_onto 64 n [] refl

pub digit_label : (b : ℕ) → is_digit b ≡ true → is_label_byte b ≡ true
digit_label b e = by_table is_digit is_label_byte b refl (grind (arith, nat_tests)) e
