-- The parts of tokens: IRIs are IRIs, and an IRI with a local part after it is one.
use Rattle.std.proofs.Common.{◌≡◌, ℕ, ◌<◌, Bool, true, false, cond, ◌&&◌, ◌||◌, eqb, List, [], ◌∷◌, ◌++◌, refl, ◌∙◌, arith, IsUtf8, inl, inr}
use Rattle.std.specs.Prelude.{All}
use Rattle.std.specs.List.{list_all, AllByRecursion}
use Rattle.std.proofs.lemmas.Bool.{or_cases, and_parts, and_from, eqb-true}
use Rattle.std.specs.Str.{is_utf8}
use Rattle.std.proofs.lemmas.Str.{IsUtf8-append, IsUtf8-from_ascii, is_utf8-from_IsUtf8}
use Rattle.std.proofs.lemmas.Str.Ascii.{IsAscii-from_all}
use Rattle.std.proofs.lemmas.List.Elements.{All-from_recursion}
use Rattle.std.proofs.lemmas.List.Folds.{list_all-append}
use Rattle.iris.specs.Iri.{is_letter, is_digit, is_scheme_byte, is_iri_byte, after_first, IsIri}
use Rattle.iris.proofs.ByteLaws.{by_trial, letter_small, digit_small}
use Rattle.lexer.specs.declared.token.Token.{Token}
use Rattle.iris.specs.Runs.{run_of}
use Rattle.lexer.specs.Names.{is_name_byte, is_variable_byte, IsLocal}
use Rattle.lexer.specs.Form.{IsToken, iri, name, variable, blank, string, tag, integer, word, sign, HasParts}
use Rattle.lexer.specs.Cut.{Cuts, end, space, comment, token as token_cut}
use Rattle.lexer.proofs.ByteLaws.{letter_name, digit_name, start_name, all_weaker}
use Rattle.lexer.proofs.StringLaws.{spelled_is_utf8}

-- ---- bytes of names

name_small : (b : ℕ) → is_name_byte b ≡ true → b < 128
name_small b e =
    elim (or_cases ((is_letter b || is_digit b) || eqb b 95) (eqb b 45) e) [
      | inr dash ↦ let is = eqb-true b 45 dash in omega arith
      | inl h ↦ elim (or_cases (is_letter b || is_digit b) (eqb b 95) h) [
        | inr low_line ↦ let is = eqb-true b 95 low_line in omega arith
        | inl g ↦ elim (or_cases (is_letter b) (is_digit b) g) [ inl letter ↦ letter_small b letter | inr digit ↦ digit_small b digit ]
      ]
    ]

-- an IRI may hold each byte of a name
name_iri : (b : ℕ) → is_name_byte b ≡ true → is_iri_byte b ≡ true
name_iri b e = by_trial is_name_byte is_iri_byte refl b (name_small b e) e

names_small : (bs : List ℕ) → list_all is_name_byte bs ≡ true → AllByRecursion (λ b. b < 128) bs
names_small [] e = tt
names_small (b ∷ bs) e = let h = and_parts (is_name_byte b) (list_all is_name_byte bs) e in (name_small b h.0, names_small bs h.1)

pub names_utf8 : (bs : List ℕ) → list_all is_name_byte bs ≡ true → IsUtf8 bs
names_utf8 bs e = IsUtf8-from_ascii bs (IsAscii-from_all bs (All-from_recursion (λ b. b < 128) bs (names_small bs e)))

-- runs of name bytes of each kind are name bytes, which are UTF-8
pub names_told : (bs : List ℕ) → list_all is_name_byte bs ≡ true → is_utf8 bs ≡ true
names_told bs e = is_utf8-from_IsUtf8 bs (names_utf8 bs e)

run_names : (p : ℕ → Bool) → ((b : ℕ) → p b ≡ true → is_name_byte b ≡ true) → (bs : List ℕ) → list_all is_name_byte (run_of p bs) ≡ true
run_names p weaker [] = refl
run_names p weaker (b ∷ bs) =
    elim (p b) as (λ t. p b ≡ t → list_all is_name_byte (cond t (b ∷ run_of p bs) []) ≡ true) [
      | true ↦ λ h. and_from (is_name_byte b) (list_all is_name_byte (run_of p bs)) (weaker b h) (run_names p weaker bs)
      | false ↦ λ h. refl
    ] refl

pub run_of_names : (bs : List ℕ) → list_all is_name_byte (run_of is_name_byte bs) ≡ true
run_of_names = run_names is_name_byte (λ b h. h)

pub run_of_letters : (bs : List ℕ) → list_all is_name_byte (run_of is_letter bs) ≡ true
run_of_letters = run_names is_letter letter_name

pub run_of_variables : (bs : List ℕ) → list_all is_name_byte (run_of is_variable_byte bs) ≡ true
run_of_variables = run_names is_variable_byte start_name

pub run_of_digits : (bs : List ℕ) → list_all is_name_byte (run_of is_digit bs) ≡ true
run_of_digits = run_names is_digit digit_name

local_names : (l : List ℕ) → IsLocal l → list_all is_name_byte l ≡ true
local_names [] is = refl
local_names (b ∷ bs) is = and_from (is_name_byte b) (list_all is_name_byte bs) (start_name b is.0) is.1

-- ---- IRIs

after_more : (bs l : List ℕ) → after_first bs ≡ true → list_all is_iri_byte l ≡ true → after_first (bs ++ l) ≡ true
after_more [] l e all = absurd cc
after_more (b ∷ bs) l e all =
    elim (eqb b 58) as (λ t. cond t (list_all is_iri_byte bs) (is_scheme_byte b && after_first bs) ≡ true → cond t (list_all is_iri_byte (bs ++ l)) (is_scheme_byte b && after_first (bs ++ l)) ≡ true) [
      | true ↦ λ h. list_all-append is_iri_byte bs l ∙ and_from (list_all is_iri_byte bs) (list_all is_iri_byte l) h all
      | false ↦ λ h. let g = and_parts (is_scheme_byte b) (after_first bs) h in and_from (is_scheme_byte b) (after_first (bs ++ l)) g.0 (after_more bs l g.1 all)
    ] e

-- a namespace's IRI and a local part
pub iri_with_local : (namespace l : List ℕ) → IsIri namespace → IsLocal l → IsIri (namespace ++ l)
iri_with_local [] l is local = absurd (let e : false ≡ true = is.form in cc)
iri_with_local (b ∷ bs) l is local =
    let g = and_parts (is_letter b) (after_first bs) is.form in
    let names = local_names l local in
    record {
      utf8 = IsUtf8-append (b ∷ bs) l is.utf8 (names_utf8 l names);
      form = and_from (is_letter b) (after_first (bs ++ l)) g.0 (after_more bs l g.1 (all_weaker is_name_byte is_iri_byte name_iri l names));
    }

-- ---- tokens

token_parts : {front rest : List ℕ} {t : Token} → IsToken front rest t → HasParts t
token_parts (iri {i} is) = is
token_parts (name {p} {l} prefix local) = local
token_parts (variable {m} {v} mark is) = tt
token_parts (blank is) = is
token_parts (string written quote s utf8) = spelled_is_utf8 s utf8
token_parts (tag is) = is
token_parts (integer are ends) = are
token_parts (word {w} is) = tt
token_parts (sign s) = tt

cut_parts : {text : List ℕ} {ts : List Token} → Cuts text ts → AllByRecursion HasParts ts
cut_parts end = tt
cut_parts (space e c) = cut_parts c
cut_parts (comment inner cut all at c) = cut_parts c
cut_parts (token_cut is c) = (token_parts is.is, cut_parts c)

pub tokens_have_parts : (text : List ℕ) (ts : List Token) → Cuts text ts → All HasParts ts
tokens_have_parts text ts c = All-from_recursion HasParts ts (cut_parts c)
