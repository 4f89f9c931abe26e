-- Tags: what is read is one, and no longer one stands there.
use Rattle.std.proofs.Common.{◌≡◌, ℕ, ◌-◌, ◌≤◌, ◌<◌, Bool, true, false, cond, ◌&&◌, ◌||◌, eqb, ltb, leb, List, [], ◌∷◌, ◌++◌, map, length, get_or, take, drop, refl, sym, ap, ◌∙◌, subst, arith, length-append, inl, inr}
use Rattle.std.specs.Char.{to_ascii_lowercase}
use Rattle.std.specs.List.{list_all}
use Rattle.std.proofs.Math.Bool.{or-false}
use Rattle.std.proofs.lemmas.Bool.{eqb-true, and_parts, and_from, or_cases, leb-true, le-ltb, ltb-true, ltb-false, agree_below, agree_below_at}
use Rattle.std.proofs.lemmas.List.{take_at, drop_at}
use Rattle.iris.specs.Iri.{is_letter, is_digit}
use Rattle.iris.specs.Forms.{is_small_letter, InTag, first, dash, later as in_later, is_tag_from, is_tag}
use Rattle.iris.proofs.ByteLaws.{test_ne, letter_small, digit_small}
use Rattle.lexer.specs.Names.{is_name_byte}
use Rattle.lexer.specs.Reading.{begins_group, tag_of, tag_end}
use Rattle.lexer.proofs.ByteLaws.{letter_name, digit_name}

-- ---- letters of either case

small_small : (b : ℕ) → is_small_letter b ≡ true → b < 128
small_small b e = let at_most = leb-true b 122 (and_parts (leb 97 b) (leb b 122) e).1 in omega arith

dash_small : (b : ℕ) → eqb b 45 ≡ true → b < 128
dash_small b e = let is = eqb-true b 45 e in omega arith

high_fails : (p : ℕ → Bool) → ((b : ℕ) → p b ≡ true → b < 128) → (b : ℕ) → 128 ≤ b → p b ≡ false
high_fails p small b high = elim (p b) as (λ t. p b ≡ t → t ≡ false) [ true ↦ λ e. absurd (let low = small b e in omega arith) | false ↦ λ e. refl ] refl

high_lower : (b : ℕ) → 128 ≤ b → to_ascii_lowercase b ≡ b
high_lower b high = rw (le-ltb b 65 (omega arith), le-ltb b 91 (omega arith)) refl

-- a test of a byte in lower case is another test of the byte
lower_test : (p q : ℕ → Bool) → agree_below (λ x. p (to_ascii_lowercase x)) q 128 ≡ true → ((b : ℕ) → p b ≡ true → b < 128) → ((b : ℕ) → q b ≡ true → b < 128) → (b : ℕ) → p (to_ascii_lowercase b) ≡ q b
lower_test p q tried p_small q_small b =
    elim (ltb b 128) as (λ t. ltb b 128 ≡ t → p (to_ascii_lowercase b) ≡ q b) [
      | true ↦ λ e. agree_below_at (λ x. p (to_ascii_lowercase x)) q 128 b tried (ltb-true b 128 e)
      | false ↦ λ e. let high = ltb-false b 128 e in ap p (high_lower b high) ∙ high_fails p p_small b high ∙ sym (high_fails q q_small b high)
    ] refl

letter_lower : (b : ℕ) → is_small_letter (to_ascii_lowercase b) ≡ is_letter b
letter_lower = lower_test is_small_letter is_letter refl small_small letter_small

digit_lower : (b : ℕ) → is_digit (to_ascii_lowercase b) ≡ is_digit b
digit_lower = lower_test is_digit is_digit refl digit_small digit_small

dash_lower : (b : ℕ) → eqb (to_ascii_lowercase b) 45 ≡ eqb b 45
dash_lower = lower_test (λ x. eqb x 45) (λ x. eqb x 45) refl dash_small dash_small

-- ---- one byte of a tag

abbrev part : Bool → InTag
part false = first
part true = in_later

tag_step : (later : Bool) (b : ℕ) (x : List ℕ) → is_tag_from (part later) (to_ascii_lowercase b ∷ x) ≡ (((is_letter b || (later && is_digit b)) && is_tag_from (part later) x) || (eqb b 45 && is_tag_from dash x))
tag_step false b x = let letter : is_small_letter (to_ascii_lowercase b) ≡ (is_letter b || false) = letter_lower b ∙ sym (or-false (is_letter b)) in λ i. (letter i && is_tag_from first x) || (dash_lower b i && is_tag_from dash x)
tag_step true b x = λ i. ((letter_lower b i || digit_lower b i) && is_tag_from in_later x) || (dash_lower b i && is_tag_from dash x)

dash_step : (b : ℕ) (x : List ℕ) → is_tag_from dash (to_ascii_lowercase b ∷ x) ≡ ((is_letter b || is_digit b) && is_tag_from in_later x)
dash_step b x = λ i. (letter_lower b i || digit_lower b i) && is_tag_from in_later x

nil_is : (later : Bool) → is_tag_from (part later) [] ≡ true
nil_is false = refl
nil_is true = refl

-- ---- what is read is a tag

dash_is : (bs : List ℕ) → begins_group bs ≡ true → is_tag_from in_later (map to_ascii_lowercase (tag_of true bs)) ≡ true → is_tag_from dash (map to_ascii_lowercase (tag_of true bs)) ≡ true
dash_is [] group is = absurd cc
dash_is (c ∷ cs) group is =
    let whole : tag_of true (c ∷ cs) ≡ c ∷ tag_of true cs = ap (λ t. cond t (c ∷ tag_of true cs) (cond (eqb c 45 && begins_group cs) (c ∷ tag_of true cs) [])) group in
    let x : List ℕ = map to_ascii_lowercase (tag_of true cs) in
    let e : (((is_letter c || is_digit c) && is_tag_from in_later x) || (eqb c 45 && is_tag_from dash x)) ≡ true =
    sym (tag_step true c x) ∙ subst (λ y. is_tag_from in_later (map to_ascii_lowercase y) ≡ true) whole is in
    let core : ((is_letter c || is_digit c) && is_tag_from in_later x) ≡ true =
    elim (or_cases ((is_letter c || is_digit c) && is_tag_from in_later x) (eqb c 45 && is_tag_from dash x) e) [
      | inl h ↦ h
      | inr h ↦ absurd (let g = and_parts (eqb c 45) (is_tag_from dash x) h in let n : eqb c 45 ≡ false = test_ne (λ b. is_letter b || is_digit b) c 45 refl group in let bad : false ≡ true = sym n ∙ g.0 in cc)
    ] in
    subst (λ y. is_tag_from dash (map to_ascii_lowercase y) ≡ true) (sym whole) (dash_step c x ∙ core)

tag_from : (later : Bool) (text : List ℕ) → is_tag_from (part later) (map to_ascii_lowercase (tag_of later text)) ≡ true
tag_from later [] = nil_is later
tag_from later (b ∷ bs) =
    elim (is_letter b || (later && is_digit b)) as (λ t. (is_letter b || (later && is_digit b)) ≡ t → is_tag_from (part later) (map to_ascii_lowercase (cond t (b ∷ tag_of later bs) (cond (eqb b 45 && begins_group bs) (b ∷ tag_of true bs) []))) ≡ true) [
      | true ↦ λ h. tag_step later b (map to_ascii_lowercase (tag_of later bs)) ∙ rw (h, tag_from later bs) refl
      | false ↦ λ h. elim (eqb b 45 && begins_group bs) as (λ t. (eqb b 45 && begins_group bs) ≡ t → is_tag_from (part later) (map to_ascii_lowercase (cond t (b ∷ tag_of true bs) [])) ≡ true) [
        | true ↦ λ g. let d = and_parts (eqb b 45) (begins_group bs) g in tag_step later b (map to_ascii_lowercase (tag_of true bs)) ∙ rw (h, d.0, dash_is bs d.1 (tag_from true bs)) refl
        | false ↦ λ g. nil_is later
      ] refl
    ] refl

first_byte : (b : ℕ) (bs : List ℕ) → is_letter b ≡ true → tag_of false (b ∷ bs) ≡ b ∷ tag_of false bs
first_byte b bs letter = ap (λ t. cond (t || false) (b ∷ tag_of false bs) (cond (eqb b 45 && begins_group bs) (b ∷ tag_of true bs) [])) letter

pub tag_is : (b : ℕ) (bs : List ℕ) → is_letter b ≡ true → is_tag (map to_ascii_lowercase (tag_of false (b ∷ bs))) ≡ true
tag_is b bs letter = ap (λ x. is_tag (map to_ascii_lowercase x)) (first_byte b bs letter) ∙ and_from (is_small_letter (to_ascii_lowercase b)) (is_tag_from first (map to_ascii_lowercase (tag_of false bs))) (letter_lower b ∙ letter) (tag_from false bs)

pub tag_made : (text t : List ℕ) → 1 ≤ length text → is_letter (get_or text 0 0) ≡ true → t ≡ tag_of false text → is_tag (map to_ascii_lowercase t) ≡ true
tag_made [] t some h e = absurd (omega arith)
tag_made (b ∷ bs) t some h e = subst (λ x. is_tag (map to_ascii_lowercase x) ≡ true) (sym e) (tag_is b bs h)

pub tag_split : (later : Bool) (text : List ℕ) → tag_of later text ++ tag_end later text ≡ text
tag_split later [] = refl
tag_split later (b ∷ bs) =
    elim (is_letter b || (later && is_digit b)) as (λ t. cond t (b ∷ tag_of later bs) (cond (eqb b 45 && begins_group bs) (b ∷ tag_of true bs) []) ++ cond t (tag_end later bs) (cond (eqb b 45 && begins_group bs) (tag_end true bs) (b ∷ bs)) ≡ b ∷ bs) [
      | true ↦ ap (λ (x : List ℕ). b ∷ x) (tag_split later bs)
      | false ↦ elim (eqb b 45 && begins_group bs) as (λ t. cond t (b ∷ tag_of true bs) [] ++ cond t (tag_end true bs) (b ∷ bs) ≡ b ∷ bs) [
        | true ↦ ap (λ (x : List ℕ). b ∷ x) (tag_split true bs)
        | false ↦ refl
      ]
    ]

-- the code cuts by lengths
front_len : (text : List ℕ) → length text - length (tag_end false text) ≡ length (tag_of false text)
front_len text =
    let whole : length (tag_of false text ++ tag_end false text) ≡ length text = ap length (tag_split false text) in
    omega (arith, length-append (tag_of false text) (tag_end false text))

pub cut_front : (text rest : List ℕ) → rest ≡ tag_end false text → take (length text - length rest) text ≡ tag_of false text
cut_front text rest e =
    ap (λ r. take (length text - length r) text) e ∙ ap (λ n. take n text) (front_len text) ∙ ap (take (length (tag_of false text))) (sym (tag_split false text))
    ∙ take_at (tag_of false text) (tag_end false text) (length (tag_of false text)) refl

pub cut_rest : (text rest : List ℕ) → rest ≡ tag_end false text → drop (length text - length rest) text ≡ tag_end false text
cut_rest text rest e =
    ap (λ r. drop (length text - length r) text) e ∙ ap (λ n. drop n text) (front_len text) ∙ ap (drop (length (tag_of false text))) (sym (tag_split false text))
    ∙ drop_at (tag_of false text) (tag_end false text) (length (tag_of false text)) refl

-- ---- no longer tag stands there

group_first : (bs r : List ℕ) → is_tag_from dash (map to_ascii_lowercase bs) ≡ true → (begins_group (bs ++ r) ≡ true) × (is_tag_from in_later (map to_ascii_lowercase bs) ≡ true)
group_first [] r is = absurd cc
group_first (c ∷ cs) r is =
    let x : List ℕ = map to_ascii_lowercase cs in
    let e : ((is_letter c || is_digit c) && is_tag_from in_later x) ≡ true = sym (dash_step c x) ∙ is in
    ((and_parts (is_letter c || is_digit c) (is_tag_from in_later x) e).0, tag_step true c x ∙ ap (λ t. t || (eqb c 45 && is_tag_from dash x)) e)

no_dash : (later : Bool) → (is_letter 45 || (later && is_digit 45)) ≡ false
no_dash false = refl
no_dash true = refl

longer_from : (later : Bool) (t r : List ℕ) → is_tag_from (part later) (map to_ascii_lowercase t) ≡ true → length t ≤ length (tag_of later (t ++ r))
longer_from later [] r is = omega arith
longer_from later (b ∷ bs) r is =
    let x : List ℕ = map to_ascii_lowercase bs in
    let e : (((is_letter b || (later && is_digit b)) && is_tag_from (part later) x) || (eqb b 45 && is_tag_from dash x)) ≡ true = sym (tag_step later b x) ∙ is in
    elim (is_letter b || (later && is_digit b)) as (λ t. (is_letter b || (later && is_digit b)) ≡ t → length (b ∷ bs) ≤ length (cond t (b ∷ tag_of later (bs ++ r)) (cond (eqb b 45 && begins_group (bs ++ r)) (b ∷ tag_of true (bs ++ r)) []))) [
      | true ↦ λ h.
          elim (or_cases (is_tag_from (part later) x) (eqb b 45 && is_tag_from dash x) (ap (λ t. (t && is_tag_from (part later) x) || (eqb b 45 && is_tag_from dash x)) (sym h) ∙ e)) [
            | inl g ↦ let below = longer_from later bs r g in omega (arith, below)
            | inr g ↦ absurd (let d = and_parts (eqb b 45) (is_tag_from dash x) g in let bad : true ≡ false = sym h ∙ ap (λ y. is_letter y || (later && is_digit y)) (eqb-true b 45 d.0) ∙ no_dash later in cc)
          ]
      | false ↦ λ h.
          let d = and_parts (eqb b 45) (is_tag_from dash x) (ap (λ t. (t && is_tag_from (part later) x) || (eqb b 45 && is_tag_from dash x)) (sym h) ∙ e) in
          let g = group_first bs r d.1 in
          let below = longer_from true bs r g.1 in
          rw (d.0, g.0) (omega (arith, below))
    ] refl

-- a tag begins with a letter, and what is read has all of it
pub tag_longer : (b : ℕ) (bs r : List ℕ) → is_tag (map to_ascii_lowercase (b ∷ bs)) ≡ true → (is_letter b ≡ true) × (length (b ∷ bs) ≤ length (tag_of false (b ∷ bs ++ r)))
tag_longer b bs r is =
    let h = and_parts (is_small_letter (to_ascii_lowercase b)) (is_tag_from first (map to_ascii_lowercase bs)) is in
    let letter : is_letter b ≡ true = sym (letter_lower b) ∙ h.0 in
    let below = longer_from false bs r h.1 in
    (letter, subst (λ x. length (b ∷ bs) ≤ length x) (sym (first_byte b (bs ++ r) letter)) (omega (arith, below)))

-- ---- the bytes of a tag are bytes of names

group_name : (later : Bool) (b : ℕ) → (is_letter b || (later && is_digit b)) ≡ true → is_name_byte b ≡ true
group_name later b e = elim (or_cases (is_letter b) (later && is_digit b) e) [ inl h ↦ letter_name b h | inr h ↦ digit_name b (and_parts later (is_digit b) h).1 ]

dash_name : (b : ℕ) → eqb b 45 ≡ true → is_name_byte b ≡ true
dash_name b e = rw (eqb-true b 45 e) refl

pub tag_names : (later : Bool) (bs : List ℕ) → list_all is_name_byte (tag_of later bs) ≡ true
tag_names later [] = refl
tag_names later (b ∷ bs) =
    elim (is_letter b || (later && is_digit b)) as (λ t. (is_letter b || (later && is_digit b)) ≡ t → list_all is_name_byte (cond t (b ∷ tag_of later bs) (cond (eqb b 45 && begins_group bs) (b ∷ tag_of true bs) [])) ≡ true) [
      | true ↦ λ h. and_from (is_name_byte b) (list_all is_name_byte (tag_of later bs)) (group_name later b h) (tag_names later bs)
      | false ↦ λ h. elim (eqb b 45 && begins_group bs) as (λ t. (eqb b 45 && begins_group bs) ≡ t → list_all is_name_byte (cond t (b ∷ tag_of true bs) []) ≡ true) [
        | true ↦ λ g. and_from (is_name_byte b) (list_all is_name_byte (tag_of true bs)) (dash_name b (and_parts (eqb b 45) (begins_group bs) g).0) (tag_names true bs)
        | false ↦ λ g. refl
      ] refl
    ] refl
