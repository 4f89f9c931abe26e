-- What bytes pass which tests.
use Rattle.std.proofs.Common.{◌≡◌, ℕ, ◌<◌, Bool, true, false, cond, not, ◌&&◌, ◌||◌, eqb, leb, List, [], ◌∷◌, length, refl, sym, ap, ◌∙◌, arith, inl, inr}
use Rattle.std.specs.List.{list_all}
use Rattle.std.proofs.lemmas.Bool.{eqb-true, and_parts, or_cases, leb-true, not-false, agree_below, agree_below_at}
use Rattle.iris.specs.Iri.{is_letter, is_digit, is_scheme_byte, is_iri_byte, after_first, is_iri}

-- ---- tests

pub by_test : {A P : Type 0} (b : Bool) (x y z : A) → cond b x y ≡ z → (b ≡ true → x ≡ z → P) → (b ≡ false → y ≡ z → P) → P
by_test true x y z e here there = here refl e
by_test false x y z e here there = there refl e

-- what passes a test differs from what doesn't
pub test_ne : (p : ℕ → Bool) (b n : ℕ) → p n ≡ false → p b ≡ true → eqb b n ≡ false
test_ne p b n fails passes = elim (eqb b n) as (λ t. eqb b n ≡ t → t ≡ false) [ true ↦ λ e. sym passes ∙ ap p (eqb-true b n e) ∙ fails | false ↦ λ e. refl ] refl

-- below 128 all bytes are tried
pub by_trial : (p q : ℕ → Bool) → agree_below (λ x. p x && not (q x)) (λ x. false) 128 ≡ true → (b : ℕ) → b < 128 → p b ≡ true → q b ≡ true
by_trial p q tried b small e =
    let none_fails : (p b && not (q b)) ≡ false = agree_below_at (λ x. p x && not (q x)) (λ x. false) 128 b tried small in
    not-false (q b) (ap (λ t. t && not (q b)) (sym e) ∙ none_fails)

-- ---- letters and digits

pub letter_small : (b : ℕ) → is_letter b ≡ true → b < 128
letter_small b e =
    elim (or_cases (leb 65 b && leb b 90) (leb 97 b && leb b 122) e) [
      | inl h ↦ let at_most = leb-true b 90 (and_parts (leb 65 b) (leb b 90) h).1 in omega arith
      | inr h ↦ let at_most = leb-true b 122 (and_parts (leb 97 b) (leb b 122) h).1 in omega arith
    ]

pub digit_small : (b : ℕ) → is_digit b ≡ true → b < 128
digit_small b e = let at_most = leb-true b 57 (and_parts (leb 48 b) (leb b 57) e).1 in omega arith

-- ---- bytes of IRIs

pub scheme_small : (b : ℕ) → is_scheme_byte b ≡ true → b < 128
scheme_small b e =
    elim (or_cases (((is_letter b || is_digit b) || eqb b 43) || eqb b 45) (eqb b 46) e) [
      | inr dot ↦ let is = eqb-true b 46 dot in omega arith
      | inl h ↦ elim (or_cases ((is_letter b || is_digit b) || eqb b 43) (eqb b 45) h) [
        | inr dash ↦ let is = eqb-true b 45 dash in omega arith
        | inl g ↦ elim (or_cases (is_letter b || is_digit b) (eqb b 43) g) [
          | inr plus ↦ let is = eqb-true b 43 plus in omega arith
          | inl f ↦ elim (or_cases (is_letter b) (is_digit b) f) [ inl letter ↦ letter_small b letter | inr digit ↦ digit_small b digit ]
        ]
      ]
    ]

after_bytes : (bs : List ℕ) → after_first bs ≡ true → list_all is_iri_byte bs ≡ true
after_bytes [] e = absurd cc
after_bytes (b ∷ bs) e =
    by_test (eqb b 58) (list_all is_iri_byte bs) (is_scheme_byte b && after_first bs) true e
    (λ t h. rw (ap is_iri_byte (eqb-true b 58 t)) h)
    (λ t h. let g = and_parts (is_scheme_byte b) (after_first bs) h in rw (by_trial is_scheme_byte is_iri_byte refl b (scheme_small b g.0) g.0) (after_bytes bs g.1))

-- an IRI has bytes, and only those that it may hold
pub iri_bytes : (bs : List ℕ) → is_iri bs ≡ true → (list_all is_iri_byte bs ≡ true) × (0 < length bs)
iri_bytes [] e = absurd cc
iri_bytes (b ∷ bs) e = let h = and_parts (is_letter b) (after_first bs) e in (rw (by_trial is_letter is_iri_byte refl b (letter_small b h.0) h.0) (after_bytes bs h.1), omega arith)
