-- What is read as a token is the longest one, and where a token begins a text one is read.
use Rattle.std.proofs.Common.{◌≡◌, ℕ, ◌+◌, ◌≤◌, ◌<◌, Bool, true, false, cond, not, ◌&&◌, eqb, ltb, List, [], ◌∷◌, ◌++◌, map, length, get_or, Option, Some, None, unwrap_or, refl, sym, ap, ◌∙◌, subst, arith, append_assoc, length-append, ◌⊎◌, inl, inr, IsUtf8}
use Rattle.std.specs.Char.{to_ascii_lowercase}
use Rattle.std.specs.Str.{is_utf8}
use Rattle.std.specs.List.{list_all}
use Rattle.std.proofs.lemmas.Bool.{eqb-true, and_parts, and_from, or_cases, lt-ltb}
use Rattle.std.proofs.lemmas.Option.{same_Some, none-some, cond_some}
use Rattle.std.proofs.lemmas.Str.{IsUtf8-from_is_utf8, is_utf8-from_IsUtf8}
use Rattle.iris.specs.Iri.{is_letter, is_digit, is_iri_byte, is_iri, IsIri}
use Rattle.iris.specs.Runs.{run_of, rest_of, Stops, RunsAreLongest}
use Rattle.iris.specs.Forms.{is_label, is_tag}
use Rattle.iris.proofs.ByteLaws.{by_test, test_ne, iri_bytes}
use Rattle.lexer.specs.declared.token.Token.{Token}
use Rattle.lexer.specs.declared.token.Token.TheVariants as token
use Rattle.lexer.specs.declared.token.Sign.{Sign}
use Rattle.lexer.specs.declared.token.Sign.TheVariants as signs
use Rattle.lexer.specs.Names.{is_name_byte, is_local_start, is_variable_start, is_variable_byte, IsPrefix, IsLocal, IsVariable, IsWord, AreDigits}
use Rattle.lexer.specs.Strings.{is_quote, Spells}
use Rattle.lexer.specs.Form.{sign_text, is_variable_mark, begins_with_digit, continues_integer, EndsInteger, IsBarred, quotes, no_iri, IsToken, iri, name, variable, blank, string, tag, integer, word, sign}
use Rattle.lexer.specs.Cut.{IsLongest}
use Rattle.lexer.specs.Reading.{NoneAhead, local_at, name_after, name_or_word, variable_at, label_at, blank_at, integer_at, tag_of, tag_end, tag_at, begins_with_two, string_at, sign_at, bracketed, angle_at, plain_at, token_at}
use Rattle.lexer.proofs.ByteLaws.{cut_same, run_longer, all_weaker, digit_no_letter, letter_name, start_name, start_variable, run-rest, all-run, run_until}
use Rattle.lexer.proofs.EdgeLaws.{no_name}
use Rattle.lexer.proofs.SignLaws.{At, exactly, sign_found, one_reached, two_reached}
use Rattle.lexer.proofs.TagLaws.{tag_is, tag_split, tag_longer}
use Rattle.lexer.proofs.StringLaws.{of_quotes, string_found, string_again}

-- ---- what is read is a token, and no token is barred there

pub record Front (text : List ℕ) (t : Token) (rest : List ℕ) : Type 0 where
  pub front : List ℕ
  pub cut : text ≡ front ++ rest
  pub is : IsToken front rest t

pub record Found (text : List ℕ) (t : Token) (rest : List ℕ) : Type 0 where
  pub at : Front text t rest
  pub free : IsBarred text → ⊥

front_as : {text : List ℕ} {x y : Token × List ℕ} (front : List ℕ) → x ≡ y → text ≡ front ++ x.1 → IsToken front x.1 x.0 → Front text y.0 y.1
front_as {text} front e cut is = subst (λ (y : Token × List ℕ). Front text y.0 y.1) e (record { front = front; cut = cut; is = is })

record NameFound (p text : List ℕ) (t : Token) (rest : List ℕ) : Type 0 where
  front : List ℕ
  cut : p ++ text ≡ front ++ rest
  is : IsToken front rest t
  longer : length p < length front

-- what is read is as long at least as a token that stands there
at_split : (o : Option (Token × List ℕ)) (f r front rest : List ℕ) (u : List ℕ → Token) → o ≡ Some (u front, rest) → front ++ rest ≡ f ++ r → length f ≤ length front → At o r (u f)
at_split o f r front rest u found cut longer =
    let whole : length (front ++ rest) ≡ length (f ++ r) = ap length cut in
    record {
      t = u front;
      rest = rest;
      found = found;
      less = omega (arith, length-append front rest, length-append f r);
      same = λ e. ap u (let n : length rest ≡ length r = ap length e in (cut_same front f rest r cut (omega (arith, length-append front rest, length-append f r))).0);
    }

abbrev by_start : Bool → ℕ → List ℕ → List ℕ × List ℕ
by_start t b bs = cond t (run_of is_name_byte (b ∷ bs), rest_of is_name_byte (b ∷ bs)) ([], b ∷ bs)

local_longer : (l rest : List ℕ) → IsLocal l → length l ≤ length (local_at (l ++ rest)).0
unfolding local_at
local_longer [] rest is = omega arith
local_longer (b ∷ bs) rest is = subst (λ t. length (b ∷ bs) ≤ length (by_start t b (bs ++ rest)).0) (sym is.0) (run_longer is_name_byte (b ∷ bs) rest (rw (start_name b is.0) is.1))

-- ---- which token is read, by the first byte

letter_at : (b : ℕ) (bs : List ℕ) → is_letter b ≡ true → token_at (b ∷ bs) ≡ Some (name_or_word (b ∷ bs))
unfolding token_at plain_at
letter_at b bs h = rw (test_ne is_letter b 34 refl h, test_ne is_letter b 39 refl h, test_ne is_letter b 60 refl h, h) refl

digit_at : (b : ℕ) (bs : List ℕ) → is_digit b ≡ true → token_at (b ∷ bs) ≡ integer_at (b ∷ bs)
unfolding token_at plain_at
digit_at b bs h = rw (test_ne is_digit b 34 refl h, test_ne is_digit b 39 refl h, test_ne is_digit b 60 refl h, digit_no_letter b h, h) refl

-- a fact of both marks of a variable
pub of_marks : (P : ℕ → Type 0) → P 63 → P 36 → (m : ℕ) → is_variable_mark m ≡ true → P m
of_marks P question dollar m mark =
    elim (or_cases (eqb m 63) (eqb m 36) mark) [
      | inl h ↦ subst P (sym (eqb-true m 63 h)) question
      | inr h ↦ subst P (sym (eqb-true m 36 h)) dollar
    ]

mark_at : (bs : List ℕ) (m : ℕ) → is_variable_mark m ≡ true → token_at (m ∷ bs) ≡ variable_at bs
unfolding token_at plain_at
mark_at bs = of_marks (λ m. token_at (m ∷ bs) ≡ variable_at bs) refl refl

quote_at : (bs : List ℕ) (q : ℕ) → is_quote q ≡ true → token_at (q ∷ bs) ≡ string_at q bs
unfolding token_at
quote_at bs = of_quotes (λ q. token_at (q ∷ bs) ≡ string_at q bs) refl refl

blank_is : (bs : List ℕ) → token_at (95 ∷ 58 ∷ bs) ≡ label_at bs
unfolding token_at plain_at blank_at
blank_is bs = refl

tag_is_at : (bs : List ℕ) → token_at (64 ∷ bs) ≡ tag_at bs
unfolding token_at plain_at
tag_is_at bs = refl

angle_is : (bs : List ℕ) → token_at (60 ∷ bs) ≡ angle_at bs
unfolding token_at
angle_is bs = refl

variable_starts : (b : ℕ) (bs : List ℕ) → is_variable_start b ≡ true → variable_at (b ∷ bs) ≡ Some (token.Variable (run_of is_variable_byte (b ∷ bs)), rest_of is_variable_byte (b ∷ bs))
unfolding variable_at
variable_starts b bs h = rw h refl

label_starts : (b : ℕ) (bs : List ℕ) → is_variable_byte b ≡ true → label_at (b ∷ bs) ≡ Some (token.Blank (run_of is_variable_byte (b ∷ bs)), rest_of is_variable_byte (b ∷ bs))
unfolding label_at
label_starts b bs h = rw h refl

tag_starts : (b : ℕ) (bs : List ℕ) → is_letter b ≡ true → tag_at (b ∷ bs) ≡ Some (token.Tag (map to_ascii_lowercase (tag_of false (b ∷ bs))), tag_end false (b ∷ bs))
unfolding tag_at
tag_starts b bs h = rw h refl

-- a label has a byte or more
label_of : (b : ℕ) (bs : List ℕ) → list_all is_variable_byte (b ∷ bs) ≡ true → is_label (b ∷ bs) ≡ true
label_of b bs all = and_from (ltb 0 (length (b ∷ bs))) (list_all is_variable_byte (b ∷ bs)) (lt-ltb 0 (length (b ∷ bs)) (omega arith)) all

label_bytes : (l : List ℕ) → is_label l ≡ true → list_all is_variable_byte l ≡ true
label_bytes l is = (and_parts (ltb 0 (length l)) (list_all is_variable_byte l) is).1

-- ---- where tokens are barred

-- bytes that an IRI may hold are closed by `>`, and are no IRI
abbrev bars : List ℕ → List ℕ → Bool
bars i [] = false
bars i (c ∷ rest) = eqb c 62 && not (is_iri i)

abbrev starts_quote : List ℕ → Bool
starts_quote [] = false
starts_quote (b ∷ bs) = is_quote b

abbrev starts_barred : List ℕ → Bool
starts_barred [] = false
starts_barred (b ∷ bs) = eqb b 60 && bars (run_of is_iri_byte bs) (rest_of is_iri_byte bs)

abbrev has_two : List ℕ → Bool
has_two [] = false
has_two (b ∷ []) = false
has_two (b ∷ c ∷ []) = false
has_two (b ∷ c ∷ d ∷ bs) = eqb c b && eqb d b

two_is : (q : ℕ) (bs : List ℕ) → has_two (q ∷ bs) ≡ begins_with_two q bs
two_is q [] = refl
two_is q (b ∷ []) = refl
two_is q (b ∷ c ∷ bs) = refl

eqb_self : (q : ℕ) → is_quote q ≡ true → eqb q q ≡ true
eqb_self = of_quotes (λ q. eqb q q ≡ true) refl refl

-- ---- by the law of runs

module _ (runs : RunsAreLongest) where
  barred_starts : {text : List ℕ} → IsBarred text → ((starts_quote text ≡ true) × (has_two text ≡ true)) ⊎ (starts_barred text ≡ true)
  barred_starts (quotes {q} {rest} is) = inl (is, rw (eqb_self q is) refl)
  barred_starts (no_iri i rest all is) =
      let x = run_until runs is_iri_byte i 62 rest all refl in
      inr ((λ j. bars (x.0 j) (x.1 j)) ∙ ap not is)

  free_other : (b : ℕ) (bs : List ℕ) → is_quote b ≡ false → eqb b 60 ≡ false → IsBarred (b ∷ bs) → ⊥
  free_other b bs quote angle barred =
      elim (barred_starts barred) [
        | inl h ↦ let bad : false ≡ true = sym quote ∙ h.0 in absurd cc
        | inr h ↦ let bad : false ≡ true = ap (λ t. t && bars (run_of is_iri_byte bs) (rest_of is_iri_byte bs)) (sym angle) ∙ h in absurd cc
      ]

  free_angle : (bs : List ℕ) → bars (run_of is_iri_byte bs) (rest_of is_iri_byte bs) ≡ false → IsBarred (60 ∷ bs) → ⊥
  free_angle bs none barred =
      elim (barred_starts barred) [
        | inl h ↦ let bad : false ≡ true = h.0 in absurd cc
        | inr h ↦ let bad : false ≡ true = sym none ∙ h in absurd cc
      ]

  no_two : (q : ℕ) (bs : List ℕ) → is_quote q ≡ true → begins_with_two q bs ≡ false → IsBarred (q ∷ bs) → ⊥
  no_two q bs is none barred =
      elim (barred_starts barred) [
        | inl h ↦ let bad : true ≡ false = sym h.1 ∙ two_is q bs ∙ none in absurd cc
        | inr h ↦ let bad : false ≡ true = ap (λ t. t && bars (run_of is_iri_byte bs) (rest_of is_iri_byte bs)) (sym (test_ne is_quote q 60 refl is)) ∙ h in absurd cc
      ]

  -- ---- names, words, variables, labels and integers

  local_found : (text : List ℕ) → ((local_at text).0 ++ (local_at text).1 ≡ text) × IsLocal (local_at text).0
  unfolding local_at
  local_found [] = (refl, tt)
  local_found (b ∷ bs) =
      elim (is_local_start b) as (λ t. is_local_start b ≡ t → ((by_start t b bs).0 ++ (by_start t b bs).1 ≡ b ∷ bs) × IsLocal (by_start t b bs).0) [
        | true ↦ λ e. (run-rest runs is_name_byte (b ∷ bs), subst IsLocal (sym (ap (λ t. cond t (b ∷ run_of is_name_byte bs) []) (start_name b e))) (e, all-run runs is_name_byte bs))
        | false ↦ λ e. (refl, tt)
      ] refl

  pub local_is : (text l : List ℕ) → l ≡ (local_at text).0 → IsLocal l
  local_is text l e = subst IsLocal (sym e) (local_found text).1

  name_found : (p text : List ℕ) (t : Token) (rest : List ℕ) → IsPrefix p → name_after p text ≡ Some (t, rest) → NameFound p text t rest
  unfolding name_after
  name_found p [] t rest prefix e = absurd cc
  name_found p (b ∷ bs) t rest prefix e =
      let l = local_at bs in
      let g = cond_some (eqb b 58) (token.Name p l.0, l.1) (t, rest) e in
      let is = local_found bs in
      let rest-is : l.1 ≡ rest = ap (λ (x : Token × List ℕ). x.1) g.1 in
      record {
        front = p ++ 58 ∷ l.0;
        cut = ap (λ (x : ℕ). p ++ x ∷ bs) (eqb-true b 58 g.0) ∙ ap (λ (r : List ℕ). p ++ 58 ∷ r) (sym is.0 ∙ ap (λ (r : List ℕ). l.0 ++ r) rest-is) ∙ sym (append_assoc p (58 ∷ l.0) rest);
        is = subst (λ (y : Token × List ℕ). IsToken (p ++ 58 ∷ l.0) y.1 y.0) g.1 (name prefix is.1);
        longer = omega (arith, length-append p (58 ∷ l.0));
      }

  prefix_is : (b : ℕ) (bs : List ℕ) → is_letter b ≡ true → IsPrefix (run_of is_name_byte (b ∷ bs))
  prefix_is b bs h = rw (letter_name b h) (h, all-run runs is_name_byte bs)

  word_is : (b : ℕ) (bs : List ℕ) → is_letter b ≡ true → IsWord (run_of is_letter (b ∷ bs))
  word_is b bs h = rw h (h, all-run runs is_letter bs)

  letter_found : (b : ℕ) (bs : List ℕ) (t : Token) (rest : List ℕ) → is_letter b ≡ true → name_or_word (b ∷ bs) ≡ (t, rest) → Front (b ∷ bs) t rest
  unfolding name_or_word
  letter_found b bs t rest h e =
      let text : List ℕ = b ∷ bs in
      let word-text : List ℕ = run_of is_letter text in
      elim (name_after (run_of is_name_byte text) (rest_of is_name_byte text)) as (λ o. name_after (run_of is_name_byte text) (rest_of is_name_byte text) ≡ o → unwrap_or o (token.Word word-text, rest_of is_letter text) ≡ (t, rest) → Front text t rest) [
        | None ↦ λ o e. front_as word-text e (sym (run-rest runs is_letter text)) (word (word_is b bs h))
        | Some x ↦ λ o e.
            let n = name_found (run_of is_name_byte text) (rest_of is_name_byte text) t rest (prefix_is b bs h) (o ∙ ap (λ (y : Token × List ℕ). let r : Option (Token × List ℕ) = Some y in r) e) in
            record { front = n.front; cut = sym (run-rest runs is_name_byte text) ∙ n.cut; is = n.is }
      ] refl e

  variable_is : (b : ℕ) (bs : List ℕ) → is_variable_start b ≡ true → IsVariable (run_of is_variable_byte (b ∷ bs))
  variable_is b bs h = rw (start_variable b h) (h, all-run runs is_variable_byte bs)

  variable_found : (m : ℕ) (bs : List ℕ) (t : Token) (rest : List ℕ) → is_variable_mark m ≡ true → variable_at bs ≡ Some (t, rest) → Front (m ∷ bs) t rest
  unfolding variable_at
  variable_found m [] t rest mark e = absurd (none-some (t, rest) e)
  variable_found m (b ∷ bs) t rest mark e =
      let v : List ℕ = run_of is_variable_byte (b ∷ bs) in
      let g = cond_some (is_variable_start b) (token.Variable v, rest_of is_variable_byte (b ∷ bs)) (t, rest) e in
      front_as (m ∷ v) g.1 (ap (λ (r : List ℕ). m ∷ r) (sym (run-rest runs is_variable_byte (b ∷ bs)))) (variable mark (variable_is b bs g.0))

  label_is : (b : ℕ) (bs : List ℕ) → is_variable_byte b ≡ true → is_label (run_of is_variable_byte (b ∷ bs)) ≡ true
  label_is b bs h =
      let whole : run_of is_variable_byte (b ∷ bs) ≡ b ∷ run_of is_variable_byte bs = ap (λ t. cond t (b ∷ run_of is_variable_byte bs) []) h in
      subst (λ x. is_label x ≡ true) (sym whole) (label_of b (run_of is_variable_byte bs) (and_from (is_variable_byte b) (list_all is_variable_byte (run_of is_variable_byte bs)) h (all-run runs is_variable_byte bs)))

  pub label_made : (text l : List ℕ) → 1 ≤ length text → is_variable_byte (get_or text 0 0) ≡ true → l ≡ run_of is_variable_byte text → is_label l ≡ true
  label_made [] l some h e = absurd (omega arith)
  label_made (b ∷ bs) l some h e = subst (λ x. is_label x ≡ true) (sym e) (label_is b bs h)

  label_found : (bs : List ℕ) (t : Token) (rest : List ℕ) → label_at bs ≡ Some (t, rest) → Front (95 ∷ 58 ∷ bs) t rest
  unfolding label_at
  label_found [] t rest e = absurd (none-some (t, rest) e)
  label_found (b ∷ bs) t rest e =
      let l : List ℕ = run_of is_variable_byte (b ∷ bs) in
      let g = cond_some (is_variable_byte b) (token.Blank l, rest_of is_variable_byte (b ∷ bs)) (t, rest) e in
      front_as (95 ∷ 58 ∷ l) g.1 (ap (λ (r : List ℕ). 95 ∷ 58 ∷ r) (sym (run-rest runs is_variable_byte (b ∷ bs)))) (blank (label_is b bs g.0))

  blank_found : (bs : List ℕ) (t : Token) (rest : List ℕ) → blank_at bs ≡ Some (t, rest) → Front (95 ∷ bs) t rest
  unfolding blank_at
  blank_found [] t rest e = absurd (none-some (t, rest) e)
  blank_found (b ∷ bs) t rest e =
      by_test (eqb b 58) (label_at bs) None (Some (t, rest)) e
      (λ h e. subst (λ y. Front (95 ∷ y ∷ bs) t rest) (sym (eqb-true b 58 h)) (label_found bs t rest e))
      (λ h e. absurd (none-some (t, rest) e))

  digits_are : (b : ℕ) (bs : List ℕ) → is_digit b ≡ true → AreDigits (run_of is_digit (b ∷ bs))
  digits_are b bs h = subst AreDigits (sym (ap (λ t. cond t (b ∷ run_of is_digit bs) []) h)) (and_from (is_digit b) (list_all is_digit (run_of is_digit bs)) h (all-run runs is_digit bs))

  pub digits_made : (text n : List ℕ) → begins_with_digit text ≡ true → n ≡ run_of is_digit text → AreDigits n
  digits_made [] n h e = absurd cc
  digits_made (b ∷ bs) n h e = subst AreDigits (sym e) (digits_are b bs h)

  integer_found : (b : ℕ) (bs : List ℕ) (t : Token) (rest : List ℕ) → is_digit b ≡ true → integer_at (b ∷ bs) ≡ Some (t, rest) → Front (b ∷ bs) t rest
  unfolding integer_at
  integer_found b bs t rest h e =
      let text : List ℕ = b ∷ bs in
      by_test (continues_integer (rest_of is_digit text)) None (Some (token.Integer (run_of is_digit text), rest_of is_digit text)) (Some (t, rest)) e
      (λ c e. absurd (none-some (t, rest) e))
      (λ c e. front_as (run_of is_digit text) (same_Some (token.Integer (run_of is_digit text), rest_of is_digit text) (t, rest) e) (sym (run-rest runs is_digit text)) (integer (digits_are b bs h) c))

  tag_found : (bs : List ℕ) (t : Token) (rest : List ℕ) → tag_at bs ≡ Some (t, rest) → Front (64 ∷ bs) t rest
  unfolding tag_at
  tag_found [] t rest e = absurd (none-some (t, rest) e)
  tag_found (b ∷ bs) t rest e =
      let w : List ℕ = tag_of false (b ∷ bs) in
      let g = cond_some (is_letter b) (token.Tag (map to_ascii_lowercase w), tag_end false (b ∷ bs)) (t, rest) e in
      front_as (64 ∷ w) g.1 (ap (λ (r : List ℕ). 64 ∷ r) (sym (tag_split false (b ∷ bs)))) (tag (tag_is b bs g.0))

  sign_front : (b : ℕ) (bs : List ℕ) (t : Token) (rest : List ℕ) → sign_at b bs ≡ Some (t, rest) → Front (b ∷ bs) t rest
  sign_front b bs t rest e = let s = sign_found b bs t rest e in record { front = sign_text s.s; cut = s.cut; is = subst (λ t. IsToken (sign_text s.s) rest t) s.is (sign s.s) }

  plain_found : (b : ℕ) (bs : List ℕ) (t : Token) (rest : List ℕ) → plain_at (b ∷ bs) ≡ Some (t, rest) → Front (b ∷ bs) t rest
  unfolding plain_at
  plain_found b bs t rest e =
      by_test (is_letter b) (Some (name_or_word (b ∷ bs))) _ (Some (t, rest)) e (λ h e. letter_found b bs t rest h (same_Some (name_or_word (b ∷ bs)) (t, rest) e)) (λ h e.
      by_test (is_digit b) (integer_at (b ∷ bs)) _ (Some (t, rest)) e (λ h e. integer_found b bs t rest h e) (λ h e.
      by_test (eqb b 58) (name_after [] (b ∷ bs)) _ (Some (t, rest)) e (λ h e. let n = name_found [] (b ∷ bs) t rest tt e in record { front = n.front; cut = n.cut; is = n.is }) (λ h e.
      by_test (is_variable_mark b) (variable_at bs) _ (Some (t, rest)) e (λ h e. variable_found b bs t rest h e) (λ h e.
      by_test (eqb b 95) (blank_at bs) _ (Some (t, rest)) e (λ h e. subst (λ y. Front (y ∷ bs) t rest) (sym (eqb-true b 95 h)) (blank_found bs t rest e)) (λ h e.
      by_test (eqb b 64) (tag_at bs) (sign_at b bs) (Some (t, rest)) e (λ h e. subst (λ y. Front (y ∷ bs) t rest) (sym (eqb-true b 64 h)) (tag_found bs t rest e)) (λ h e.
      sign_front b bs t rest e))))))

  -- ---- strings, IRIs and signs that begin with `<`

  quote_found : (q : ℕ) (bs : List ℕ) (t : Token) (rest : List ℕ) → is_quote q ≡ true → string_at q bs ≡ Some (t, rest) → Found (q ∷ bs) t rest
  quote_found q bs t rest is e =
      let s = string_found q bs t rest e in
      record {
        at = record {
          front = q ∷ (s.written ++ q ∷ []);
          cut = ap (λ (r : List ℕ). q ∷ r) (s.cut ∙ sym (append_assoc s.written (q ∷ []) rest));
          is = subst (λ t. IsToken (q ∷ (s.written ++ q ∷ [])) rest t) s.is (string s.written is s.spells s.utf8);
        };
        free = λ barred. no_two q bs is s.one barred;
      }

  angle_found : (bs : List ℕ) (t : Token) (rest : List ℕ) → angle_at bs ≡ Some (t, rest) → Found (60 ∷ bs) t rest
  unfolding angle_at
  angle_found bs t rest e =
      let i : List ℕ = run_of is_iri_byte bs in
      let by_sign : bars i (rest_of is_iri_byte bs) ≡ false → sign_at 60 bs ≡ Some (t, rest) → Found (60 ∷ bs) t rest = λ none e. record { at = sign_front 60 bs t rest e; free = free_angle bs none } in
      elim (rest_of is_iri_byte bs) as (λ r. rest_of is_iri_byte bs ≡ r → bracketed i r bs ≡ Some (t, rest) → Found (60 ∷ bs) t rest) [
        | [] ↦ λ r e. by_sign (ap (bars i) r) e
        | c ∷ after ↦ λ r e.
            by_test (eqb c 62) (cond (is_iri i) (cond (is_utf8 i) (Some (token.Iri i, after)) (sign_at 60 bs)) None) (sign_at 60 bs) (Some (t, rest)) e
            (λ close e. by_test (is_iri i) (cond (is_utf8 i) (Some (token.Iri i, after)) (sign_at 60 bs)) None (Some (t, rest)) e
            (λ form e.
            let none : bars i (rest_of is_iri_byte bs) ≡ false = ap (bars i) r ∙ rw (close, form) refl in
            by_test (is_utf8 i) (Some (token.Iri i, after)) (sign_at 60 bs) (Some (t, rest)) e
            (λ utf8 e.
            let whole : bs ≡ i ++ 62 ∷ after = sym (run-rest runs is_iri_byte bs) ∙ ap (λ (x : List ℕ). i ++ x) (r ∙ ap (λ (y : ℕ). y ∷ after) (eqb-true c 62 close)) in
            record {
              at = front_as (60 ∷ (i ++ 62 ∷ [])) (same_Some (token.Iri i, after) (t, rest) e) (ap (λ (x : List ℕ). 60 ∷ x) (whole ∙ sym (append_assoc i (62 ∷ []) after))) (iri (record { utf8 = IsUtf8-from_is_utf8 i utf8; form = form }));
              free = free_angle bs none;
            })
            (λ utf8 e. by_sign none e))
            (λ form e. absurd (none-some (t, rest) e)))
            (λ close e. by_sign (ap (bars i) r ∙ rw close refl) e)
      ] refl e

  pub token_found : (text : List ℕ) (t : Token) (rest : List ℕ) → token_at text ≡ Some (t, rest) → Found text t rest
  unfolding token_at
  token_found [] t rest e = absurd (none-some (t, rest) e)
  token_found (b ∷ bs) t rest e =
      by_test (is_quote b) (string_at b bs) (cond (eqb b 60) (angle_at bs) (plain_at (b ∷ bs))) (Some (t, rest)) e
      (λ q e. quote_found b bs t rest q e)
      (λ q e. by_test (eqb b 60) (angle_at bs) (plain_at (b ∷ bs)) (Some (t, rest)) e
      (λ a e. subst (λ y. Found (y ∷ bs) t rest) (sym (eqb-true b 60 a)) (angle_found bs t rest e))
      (λ a e. record { at = plain_found b bs t rest e; free = free_other b bs q a }))

  -- ---- each token is reached

  variable_reached : (m : ℕ) (v r : List ℕ) → is_variable_mark m ≡ true → IsVariable v → At (token_at (m ∷ (v ++ r))) r (token.Variable v)
  variable_reached m [] r mark is = absurd is
  variable_reached m (b ∷ bs) r mark is =
      let text : List ℕ = b ∷ bs ++ r in
      at_split (token_at (m ∷ text)) (b ∷ bs) r (run_of is_variable_byte text) (rest_of is_variable_byte text) token.Variable (mark_at text m mark ∙ variable_starts b (bs ++ r) is.0) (run-rest runs is_variable_byte text)
      (run_longer is_variable_byte (b ∷ bs) r (and_from (is_variable_byte b) (list_all is_variable_byte bs) (start_variable b is.0) is.1))

  blank_reached : (l r : List ℕ) → is_label l ≡ true → At (token_at (95 ∷ 58 ∷ (l ++ r))) r (token.Blank l)
  blank_reached [] r is = absurd cc
  blank_reached (b ∷ bs) r is =
      let text : List ℕ = b ∷ bs ++ r in
      let all = label_bytes (b ∷ bs) is in
      let h = and_parts (is_variable_byte b) (list_all is_variable_byte bs) all in
      at_split (token_at (95 ∷ 58 ∷ text)) (b ∷ bs) r (run_of is_variable_byte text) (rest_of is_variable_byte text) token.Blank (blank_is text ∙ label_starts b (bs ++ r) h.0) (run-rest runs is_variable_byte text) (run_longer is_variable_byte (b ∷ bs) r all)

  tag_reached : (w r : List ℕ) → is_tag (map to_ascii_lowercase w) ≡ true → At (token_at (64 ∷ (w ++ r))) r (token.Tag (map to_ascii_lowercase w))
  tag_reached [] r is = absurd cc
  tag_reached (b ∷ bs) r is =
      let text : List ℕ = b ∷ bs ++ r in
      let h = tag_longer b bs r is in
      at_split (token_at (64 ∷ text)) (b ∷ bs) r (tag_of false text) (tag_end false text) (λ x. token.Tag (map to_ascii_lowercase x)) (tag_is_at text ∙ tag_starts b (bs ++ r) h.0) (tag_split false text) h.1

  stops_digit : (r : List ℕ) → continues_integer r ≡ false → Stops is_digit r
  stops_digit [] ends = tt
  stops_digit (b ∷ bs) ends =
      elim (is_digit b) as (λ t. is_digit b ≡ t → t ≡ false) [
        | true ↦ λ e. absurd (let bad : true ≡ false = sym (rw (digit_no_letter b e, e) refl) ∙ ends in cc)
        | false ↦ λ e. refl
      ] refl

  integer_again : (n r : List ℕ) → run_of is_digit (n ++ r) ≡ n → rest_of is_digit (n ++ r) ≡ r → continues_integer r ≡ false → integer_at (n ++ r) ≡ Some (token.Integer n, r)
  unfolding integer_at
  integer_again n r run rest ends = rw (run, rest, ends) refl

  integer_reached : (n r : List ℕ) → AreDigits n → EndsInteger r → At (token_at (n ++ r)) r (token.Integer n)
  integer_reached [] r are ends = absurd are
  integer_reached (b ∷ bs) r are ends =
      let x = (runs is_digit ((b ∷ bs) ++ r) (b ∷ bs) r).1 (record { cut = refl; all = are; stops = stops_digit r ends }) in
      exactly (token_at (b ∷ bs ++ r)) r (token.Integer (b ∷ bs)) (digit_at b (bs ++ r) (and_parts (is_digit b) (list_all is_digit bs) are).0 ∙ integer_again (b ∷ bs) r x.0 x.1 ends)

  token_name : (p l r : List ℕ) → IsPrefix p → token_at ((p ++ 58 ∷ l) ++ r) ≡ Some (token.Name p (local_at (l ++ r)).0, (local_at (l ++ r)).1)
  unfolding token_at plain_at name_after name_or_word
  token_name [] l r prefix = refl
  token_name (b ∷ bs) l r prefix =
      let all : list_all is_name_byte (b ∷ bs) ≡ true = and_from (is_name_byte b) (list_all is_name_byte bs) (letter_name b prefix.0) prefix.1 in
      let x = run_until runs is_name_byte (b ∷ bs) 58 (l ++ r) all refl in
      let text : (b ∷ bs ++ 58 ∷ l) ++ r ≡ (b ∷ bs) ++ 58 ∷ (l ++ r) = append_assoc (b ∷ bs) (58 ∷ l) r in
      ap token_at text ∙ letter_at b (bs ++ 58 ∷ (l ++ r)) prefix.0
      ∙ ap (λ (x : List ℕ × List ℕ). let o : Option (Token × List ℕ) = Some (unwrap_or (name_after x.0 x.1) (token.Word (run_of is_letter ((b ∷ bs) ++ 58 ∷ (l ++ r))), rest_of is_letter ((b ∷ bs) ++ 58 ∷ (l ++ r)))) in o) (λ i. (x.0 i, x.1 i))

  name_reached : (p l r : List ℕ) → IsPrefix p → IsLocal l → At (token_at ((p ++ 58 ∷ l) ++ r)) r (token.Name p l)
  name_reached p l r prefix local =
      let m = local_at (l ++ r) in
      at_split (token_at ((p ++ 58 ∷ l) ++ r)) l r m.0 m.1 (token.Name p) (token_name p l r prefix) (local_found (l ++ r)).0 (local_longer l r local)

  word_reached : (w r : List ℕ) → IsWord w → At (token_at (w ++ r)) r (token.Word w)
  unfolding name_or_word
  word_reached [] r is = absurd is
  word_reached (b ∷ bs) r is =
      let text : List ℕ = b ∷ bs ++ r in
      let w : List ℕ = run_of is_letter text in
      let all : list_all is_letter (b ∷ bs) ≡ true = and_from (is_letter b) (list_all is_letter bs) is.0 is.1 in
      let names : length (b ∷ bs) ≤ length (run_of is_name_byte text) = run_longer is_name_byte (b ∷ bs) r (all_weaker is_letter is_name_byte letter_name (b ∷ bs) all) in
      elim (name_after (run_of is_name_byte text) (rest_of is_name_byte text)) as (λ o. name_after (run_of is_name_byte text) (rest_of is_name_byte text) ≡ o → At (token_at text) r (token.Word (b ∷ bs))) [
        | None ↦ λ o.
            at_split (token_at text) (b ∷ bs) r w (rest_of is_letter text) token.Word
            (letter_at b (bs ++ r) is.0 ∙ ap (λ (o : Option (Token × List ℕ)). let r : Option (Token × List ℕ) = Some (unwrap_or o (token.Word w, rest_of is_letter text)) in r) o)
            (run-rest runs is_letter text) (run_longer is_letter (b ∷ bs) r all)
        | Some x ↦ λ o.
            let n = name_found (run_of is_name_byte text) (rest_of is_name_byte text) x.0 x.1 (prefix_is b (bs ++ r) is.0) o in
            let whole : length text ≡ length (n.front ++ x.1) = ap length (sym (run-rest runs is_name_byte text) ∙ n.cut) in
            let more : length (run_of is_name_byte text) < length n.front = n.longer in
            let less : length x.1 < length r = omega (arith, length-append (b ∷ bs) r, length-append n.front x.1) in
            record {
              t = x.0;
              rest = x.1;
              found = letter_at b (bs ++ r) is.0 ∙ ap (λ (o : Option (Token × List ℕ)). let r : Option (Token × List ℕ) = Some (unwrap_or o (token.Word w, rest_of is_letter text)) in r) o;
              less = omega (arith, less);
              same = λ e. absurd (let n : length x.1 ≡ length r = ap length e in omega (arith, less));
            }
      ] refl

  iri_again : (i r : List ℕ) → IsIri i → angle_at (i ++ 62 ∷ r) ≡ Some (token.Iri i, r)
  unfolding angle_at
  iri_again i r is =
      let x = run_until runs is_iri_byte i 62 r (iri_bytes i is.form).0 refl in
      (λ j. bracketed (x.0 j) (x.1 j) (i ++ 62 ∷ r)) ∙ rw (is.form, is_utf8-from_IsUtf8 i is.utf8) refl

  iri_reached : (i r : List ℕ) → IsIri i → At (token_at ((60 ∷ (i ++ 62 ∷ [])) ++ r)) r (token.Iri i)
  iri_reached i r is = exactly (token_at ((60 ∷ (i ++ 62 ∷ [])) ++ r)) r (token.Iri i) (ap (λ (x : List ℕ). token_at (60 ∷ x)) (append_assoc i (62 ∷ []) r) ∙ angle_is (i ++ 62 ∷ r) ∙ iri_again i r is)

  -- a sign that begins with `<`, or an IRI, which takes more
  angle_reached : (bs r : List ℕ) (u : Token) → length bs ≤ length r + 1 → (IsBarred (60 ∷ bs) → ⊥) → At (sign_at 60 bs) r u → At (angle_at bs) r u
  unfolding angle_at
  angle_reached bs r u short free at =
      let i : List ℕ = run_of is_iri_byte bs in
      elim (rest_of is_iri_byte bs) as (λ x. rest_of is_iri_byte bs ≡ x → At (bracketed i x bs) r u) [
        | [] ↦ λ x. at
        | c ∷ after ↦ λ x. elim (eqb c 62) as (λ t. eqb c 62 ≡ t → At (cond t (cond (is_iri i) (cond (is_utf8 i) (Some (token.Iri i, after)) (sign_at 60 bs)) None) (sign_at 60 bs)) r u) [
          | true ↦ λ close.
              let whole : i ++ 62 ∷ after ≡ bs = ap (λ (y : List ℕ). i ++ y) (sym (x ∙ ap (λ (y : ℕ). y ∷ after) (eqb-true c 62 close))) ∙ run-rest runs is_iri_byte bs in
              elim (is_iri i) as (λ t. is_iri i ≡ t → At (cond t (cond (is_utf8 i) (Some (token.Iri i, after)) (sign_at 60 bs)) None) r u) [
                | true ↦ λ form. elim (is_utf8 i) as (λ t. At (cond t (Some (token.Iri i, after)) (sign_at 60 bs)) r u) [
                  | true ↦
                      let some : 0 < length i = (iri_bytes i form).1 in
                      let n : length (i ++ 62 ∷ after) ≡ length bs = ap length whole in
                      let less : length after < length r = omega (arith, length-append i (62 ∷ after)) in
                      record { t = token.Iri i; rest = after; found = refl; less = omega (arith, less); same = λ e. absurd (let m : length after ≡ length r = ap length e in omega (arith, less)) }
                  | false ↦ at
                ]
                | false ↦ λ form. absurd (free (subst (λ y. IsBarred (60 ∷ y)) whole (no_iri i after (all-run runs is_iri_byte bs) form)))
              ] refl
          | false ↦ λ close. at
        ] refl
      ] refl

  sign_reached : (s : Sign) (r : List ℕ) → (IsBarred (sign_text s ++ r) → ⊥) → At (token_at (sign_text s ++ r)) r (token.Sign s)
  unfolding token_at plain_at
  sign_reached signs.OpenBrace r free = one_reached 123 r signs.OpenBrace refl
  sign_reached signs.CloseBrace r free = one_reached 125 r signs.CloseBrace refl
  sign_reached signs.OpenParen r free = one_reached 40 r signs.OpenParen refl
  sign_reached signs.CloseParen r free = one_reached 41 r signs.CloseParen refl
  sign_reached signs.Dot r free = one_reached 46 r signs.Dot refl
  sign_reached signs.Semicolon r free = one_reached 59 r signs.Semicolon refl
  sign_reached signs.Comma r free = one_reached 44 r signs.Comma refl
  sign_reached signs.Carets r free = two_reached 94 94 r signs.Carets refl
  sign_reached signs.Equal r free = one_reached 61 r signs.Equal refl
  sign_reached signs.NotEqual r free = two_reached 33 61 r signs.NotEqual refl
  sign_reached signs.Less r free = angle_reached r r (token.Sign signs.Less) (omega arith) free (one_reached 60 r signs.Less refl)
  sign_reached signs.Greater r free = one_reached 62 r signs.Greater refl
  sign_reached signs.LessEqual r free = angle_reached (61 ∷ r) r (token.Sign signs.LessEqual) (omega arith) free (two_reached 60 61 r signs.LessEqual refl)
  sign_reached signs.GreaterEqual r free = two_reached 62 61 r signs.GreaterEqual refl
  sign_reached signs.Ampersands r free = two_reached 38 38 r signs.Ampersands refl
  sign_reached signs.Bars r free = two_reached 124 124 r signs.Bars refl
  sign_reached signs.Bang r free = one_reached 33 r signs.Bang refl
  sign_reached signs.Plus r free = one_reached 43 r signs.Plus refl
  sign_reached signs.Minus r free = one_reached 45 r signs.Minus refl
  sign_reached signs.Star r free = one_reached 42 r signs.Star refl

  string_reached : {value : List ℕ} (q : ℕ) (written r : List ℕ) → is_quote q ≡ true → Spells q written value → IsUtf8 written → (IsBarred ((q ∷ (written ++ q ∷ [])) ++ r) → ⊥) → At (token_at ((q ∷ (written ++ q ∷ [])) ++ r)) r (token.Text value)
  string_reached {value} q written r is s utf8 free =
      let tail : (written ++ q ∷ []) ++ r ≡ written ++ q ∷ r = append_assoc written (q ∷ []) r in
      exactly (token_at ((q ∷ (written ++ q ∷ [])) ++ r)) r (token.Text value)
      (ap (λ (x : List ℕ). token_at (q ∷ x)) tail ∙ quote_at (written ++ q ∷ r) q is ∙ string_again q written value r is s utf8 (subst (λ x. IsBarred (q ∷ x) → ⊥) tail free))

  reached : {f r : List ℕ} {u : Token} → IsToken f r u → (IsBarred (f ++ r) → ⊥) → At (token_at (f ++ r)) r u
  reached (iri {i} {rest = r} is) free = iri_reached i r is
  reached (name {p} {l} {rest = r} prefix local) free = name_reached p l r prefix local
  reached (variable {m} {v} {rest = r} mark is) free = variable_reached m v r mark is
  reached (blank {l} {rest = r} is) free = blank_reached l r is
  reached (string {quote = q} written {value} {rest = r} is s utf8) free = string_reached q written r is s utf8 free
  reached (tag {t = w} {rest = r} is) free = tag_reached w r is
  reached (integer {n} {rest = r} are ends) free = integer_reached n r are ends
  reached (word {w} {rest = r} is) free = word_reached w r is
  reached (sign {rest = r} s) free = sign_reached s r free

  -- what is read is the longest token
  pub longest_found : (text : List ℕ) (t : Token) (rest : List ℕ) → token_at text ≡ Some (t, rest) → (front : List ℕ) × IsLongest text front rest t
  longest_found text t rest e =
      let f = token_found text t rest e in
      let g = f.at in (
        g.front,
        record {
          cut = g.cut;
          is = g.is;
          free = f.free;
          most = λ other r u cut is.
              let x = reached is (subst (λ y. IsBarred y → ⊥) cut f.free) in
              let same : x.rest ≡ rest = ap (λ (y : Token × List ℕ). y.1) (same_Some (x.t, x.rest) (t, rest) (sym x.found ∙ ap token_at (sym cut) ∙ e)) in
              let rests : length x.rest ≡ length rest = ap length same in
              let less : length x.rest ≤ length r = x.less in
              let whole : length (other ++ r) ≡ length (g.front ++ rest) = ap length (sym cut ∙ g.cut) in
              omega (arith, length-append other r, length-append g.front rest);
        },
      )

  -- the longest token is read
  pub longest_again : (text front rest : List ℕ) (t : Token) → IsLongest text front rest t → token_at text ≡ Some (t, rest)
  longest_again text front rest t is =
      let x = reached is.is (subst (λ y. IsBarred y → ⊥) is.cut is.free) in
      let found : token_at text ≡ Some (x.t, x.rest) = ap token_at is.cut ∙ x.found in
      let f = token_found text x.t x.rest found in
      let g = f.at in
      let most : length g.front ≤ length front = is.most g.front x.rest x.t g.cut g.is in
      let less : length x.rest ≤ length rest = x.less in
      let whole : length (front ++ rest) ≡ length (g.front ++ x.rest) = ap length (sym is.cut ∙ g.cut) in
      let fronts : length g.front ≡ length front = omega (arith, length-append front rest, length-append g.front x.rest) in
      let same : x.rest ≡ rest = (cut_same g.front front x.rest rest (sym g.cut ∙ is.cut) fronts).1 in
      found ∙ (λ i. Some (x.same same i, same i))

  -- no token begins a text of which none is read
  pub none_begins : (text front rest : List ℕ) (t : Token) → token_at text ≡ None → text ≡ front ++ rest → IsToken front rest t → (IsBarred text → ⊥) → ⊥
  none_begins text front rest t e cut is free =
      let x = reached is (subst (λ y. IsBarred y → ⊥) cut free) in
      none-some (x.t, x.rest) (sym e ∙ ap token_at cut ∙ x.found)

-- a word, where no name begins
pub word_read : (text : List ℕ) (edge : ℕ) → NoneAhead text edge → edge < length text → name_or_word text ≡ (token.Word (run_of is_letter text), rest_of is_letter text)
unfolding name_or_word
word_read text edge ahead more = ap (λ (o : Option (Token × List ℕ)). unwrap_or o (token.Word (run_of is_letter text), rest_of is_letter text)) (no_name text (run_of is_name_byte text) edge ahead more)
