-- Cutting a text goes on at what follows the tokens so far.
use Rattle.std.proofs.Common.{◌≡◌, ℕ, zero, suc, ◌≤◌, ◌<◌, Bool, true, false, cond, ◌||◌, eqb, List, [], ◌∷◌, ◌++◌, length, Some, None, refl, sym, ap, ◌∙◌, subst, append_assoc, length-append, arith}
use Rattle.std.specs.Prelude.{Result, Err}
use Rattle.std.specs.Global.{Vec}
use Rattle.lexer.specs.declared.stop.Stop.{Stop}
use Rattle.lexer.specs.declared.stop.Stop.TheVariants as stop
use Rattle.lexer.specs.Gives.{IsCut}
use Rattle.std.specs.List.{list_all}
use Rattle.std.proofs.lemmas.Bool.{eqb-true, and_parts, not-false, or_right}
use Rattle.std.proofs.lemmas.Option.{same_Some, none-some}
use Rattle.std.proofs.lemmas.List.{append-nil, nil_from_length}
use Rattle.iris.specs.Runs.{run_of, rest_of, RunsAreLongest}
use Rattle.iris.specs.Iri.{is_letter, is_digit}
use Rattle.iris.proofs.ByteLaws.{test_ne}
use Rattle.lexer.specs.declared.token.Token.{Token}
use Rattle.lexer.specs.declared.token.Sign.{Sign}
use Rattle.lexer.specs.declared.token.Sign.TheVariants as signs
use Rattle.lexer.specs.Names.{IsPrefix, IsWord, AreDigits}
use Rattle.lexer.specs.Strings.{is_quote}
use Rattle.lexer.specs.Form.{IsToken, iri, name, variable, blank, string, tag, integer, word, sign, sign_text}
use Rattle.lexer.specs.Cut.{is_space, is_inner, is_line_end, AtLineEnd, IsLongest, Cuts, end, space, comment, token}
use Rattle.lexer.specs.Reading.{skip_from, token_at, NoneAhead}
use Rattle.lexer.proofs.ByteLaws.{run-rest, all-run}
use Rattle.lexer.proofs.TokenLaws.{of_marks, token_found, longest_found, longest_again, none_begins}
use Rattle.lexer.proofs.EdgeLaws.{edge_after, edge_skip}

-- ---- white space and comments

line_end_space : (b : ℕ) → is_inner b ≡ false → is_space b ≡ true
line_end_space b e = or_right (eqb b 32 || eqb b 9) (is_line_end b) (not-false (is_line_end b) e)

inner_rest : (bs : List ℕ) → AtLineEnd (rest_of is_inner bs)
inner_rest [] = tt
inner_rest (b ∷ bs) = elim (is_inner b) as (λ t. is_inner b ≡ t → AtLineEnd (cond t (rest_of is_inner bs) (b ∷ bs))) [ true ↦ λ e. inner_rest bs | false ↦ λ e. e ] refl

skip_inner : (inner rest : List ℕ) → list_all is_inner inner ≡ true → skip_from true (inner ++ rest) ≡ skip_from true rest
skip_inner [] rest all = refl
skip_inner (b ∷ bs) rest all = let h = and_parts (is_inner b) (list_all is_inner bs) all in rw (h.0) (skip_inner bs rest h.1)

skip_line_end : (rest : List ℕ) → AtLineEnd rest → skip_from true rest ≡ skip_from false rest
skip_line_end [] at = refl
skip_line_end (b ∷ bs) at = ap (λ t. cond t (skip_from true bs) (skip_from false bs)) at ∙ sym (ap (λ t. cond t (skip_from false bs) (cond (eqb b 35) (skip_from true bs) (b ∷ bs))) (line_end_space b at))

-- a token begins with neither white space nor `#`
class_start : (p : ℕ → Bool) → p 32 ≡ false → p 9 ≡ false → p 13 ≡ false → p 10 ≡ false → p 35 ≡ false → (b : ℕ) (bs : List ℕ) → p b ≡ true → skip_from false (b ∷ bs) ≡ b ∷ bs
class_start p blank_space tab cr lf hash b bs h =
    let no_space : is_space b ≡ false = λ i. (test_ne p b 32 blank_space h i || test_ne p b 9 tab h i) || (test_ne p b 13 cr h i || test_ne p b 10 lf h i) in
    ap (λ t. cond t (skip_from false bs) (cond (eqb b 35) (skip_from true bs) (b ∷ bs))) no_space
    ∙ ap (λ t. cond t (skip_from true bs) (b ∷ bs)) (test_ne p b 35 hash h)

letter_start : (b : ℕ) (bs : List ℕ) → is_letter b ≡ true → skip_from false (b ∷ bs) ≡ b ∷ bs
letter_start = class_start is_letter refl refl refl refl refl

word_start : (w rest : List ℕ) → IsWord w → skip_from false (w ++ rest) ≡ w ++ rest
word_start [] rest is = absurd is
word_start (b ∷ bs) rest is = letter_start b (bs ++ rest) is.0

digits_start : (n rest : List ℕ) → AreDigits n → skip_from false (n ++ rest) ≡ n ++ rest
digits_start [] rest are = absurd are
digits_start (b ∷ bs) rest are = class_start is_digit refl refl refl refl refl b (bs ++ rest) (and_parts (is_digit b) (list_all is_digit bs) are).0

sign_start : (s : Sign) (rest : List ℕ) → skip_from false (sign_text s ++ rest) ≡ sign_text s ++ rest
sign_start signs.OpenBrace rest = refl
sign_start signs.CloseBrace rest = refl
sign_start signs.OpenParen rest = refl
sign_start signs.CloseParen rest = refl
sign_start signs.Dot rest = refl
sign_start signs.Semicolon rest = refl
sign_start signs.Comma rest = refl
sign_start signs.Carets rest = refl
sign_start signs.Equal rest = refl
sign_start signs.NotEqual rest = refl
sign_start signs.Less rest = refl
sign_start signs.Greater rest = refl
sign_start signs.LessEqual rest = refl
sign_start signs.GreaterEqual rest = refl
sign_start signs.Ampersands rest = refl
sign_start signs.Bars rest = refl
sign_start signs.Bang rest = refl
sign_start signs.Plus rest = refl
sign_start signs.Minus rest = refl
sign_start signs.Star rest = refl

name_start : (p l rest : List ℕ) → IsPrefix p → skip_from false ((p ++ 58 ∷ l) ++ rest) ≡ (p ++ 58 ∷ l) ++ rest
name_start [] l rest is = refl
name_start (b ∷ p) l rest is = letter_start b ((p ++ 58 ∷ l) ++ rest) is.0

token_start : {front after : List ℕ} {t : Token} (rest : List ℕ) → IsToken front after t → skip_from false (front ++ rest) ≡ front ++ rest
token_start rest (iri is) = refl
token_start rest (name {p} {l} prefix local) = name_start p l rest prefix
token_start rest (variable {m} {v} mark is) = of_marks (λ m. skip_from false (m ∷ (v ++ rest)) ≡ m ∷ (v ++ rest)) refl refl m mark
token_start rest (blank is) = refl
token_start rest (string {quote = q} written quote s utf8) = class_start is_quote refl refl refl refl refl q ((written ++ q ∷ []) ++ rest) quote
token_start rest (tag is) = refl
token_start rest (integer {n} are _) = digits_start n rest are
token_start rest (word {w} is) = word_start w rest is
token_start rest (sign s) = sign_start s rest

-- and what is cut before them is cut after them
skipped : {text : List ℕ} {ts : List Token} → Cuts text ts → Cuts (skip_from false text) ts
skipped end = end
skipped (space {b} {rest} {ts} e c) = subst (λ t. Cuts t ts) (sym (ap (λ t. cond t (skip_from false rest) (cond (eqb b 35) (skip_from true rest) (b ∷ rest))) e)) (skipped c)
skipped (comment {text} {rest} {ts} inner cut all at c) =
    subst (λ t. Cuts t ts) (sym (ap (skip_from false) cut ∙ skip_inner inner rest all ∙ skip_line_end rest at)) (skipped c)
skipped (token {text} {front} {rest} {t} {ts} is c) =
    subst (λ x. Cuts x (t ∷ ts)) (sym (ap (skip_from false) is.cut ∙ token_start rest is.is ∙ sym is.cut)) (token is c)

-- ---- the loop

-- the text is cut into the tokens so far and those of what is left
pub record IsCutSoFar (text : List ℕ) (before : List Token) (rest : List ℕ) : Type 0 where
  pub more : (later : List Token) → Cuts rest later → Cuts text (before ++ later)
  pub only : (all : List Token) → Cuts text all → (later : List Token) × (all ≡ before ++ later) × Cuts rest later
  pub skips : skip_from false rest ≡ rest

skip_twice : (inside : Bool) (bs : List ℕ) → skip_from false (skip_from inside bs) ≡ skip_from inside bs
skip_twice inside [] = refl
skip_twice true (b ∷ bs) = elim (is_inner b) as (λ t. skip_from false (cond t (skip_from true bs) (skip_from false bs)) ≡ cond t (skip_from true bs) (skip_from false bs)) [ true ↦ skip_twice true bs | false ↦ skip_twice false bs ]
skip_twice false (b ∷ bs) =
    elim (is_space b) as (λ t. is_space b ≡ t → skip_from false (cond t (skip_from false bs) (cond (eqb b 35) (skip_from true bs) (b ∷ bs))) ≡ cond t (skip_from false bs) (cond (eqb b 35) (skip_from true bs) (b ∷ bs))) [
      | true ↦ λ e. skip_twice false bs
      | false ↦ λ e. elim (eqb b 35) as (λ t. eqb b 35 ≡ t → skip_from false (cond t (skip_from true bs) (b ∷ bs)) ≡ cond t (skip_from true bs) (b ∷ bs)) [
        | true ↦ λ f. skip_twice true bs
        | false ↦ λ f. ap (λ t. cond t (skip_from false bs) (cond (eqb b 35) (skip_from true bs) (b ∷ bs))) e ∙ ap (λ t. cond t (skip_from true bs) (b ∷ bs)) f
      ] refl
    ] refl

-- what a text that begins with a token is cut into
data BeginsWith (text : List ℕ) (all : List Token) : Type 0 where
  begins : (front rest : List ℕ) (t : Token) (ts : List Token) → IsLongest text front rest t → Cuts rest ts → all ≡ t ∷ ts → BeginsWith text all
  ends : text ≡ [] → all ≡ [] → BeginsWith text all

pub skip_len : (inside : Bool) (bs : List ℕ) → length (skip_from inside bs) ≤ length bs
skip_len inside [] = omega arith
skip_len true (b ∷ bs) =
    let t = skip_len true bs in
    let f = skip_len false bs in
    elim (is_inner b) as (λ t. length (cond t (skip_from true bs) (skip_from false bs)) ≤ length (b ∷ bs)) [ true ↦ omega (arith, t) | false ↦ omega (arith, f) ]
skip_len false (b ∷ bs) =
    let t = skip_len true bs in
    let f = skip_len false bs in
    elim (is_space b) as (λ t. length (cond t (skip_from false bs) (cond (eqb b 35) (skip_from true bs) (b ∷ bs))) ≤ length (b ∷ bs)) [
      | true ↦ omega (arith, f)
      | false ↦ elim (eqb b 35) as (λ t. length (cond t (skip_from true bs) (b ∷ bs)) ≤ length (b ∷ bs)) [ true ↦ omega (arith, t) | false ↦ omega arith ]
    ]

space_skips : (b : ℕ) (rest : List ℕ) → is_space b ≡ true → skip_from false (b ∷ rest) ≡ b ∷ rest → ⊥
space_skips b rest e skips =
    let same : length (b ∷ rest) ≡ length (skip_from false rest) = ap length (sym skips) ∙ ap (λ t. length (cond t (skip_from false rest) (cond (eqb b 35) (skip_from true rest) (b ∷ rest)))) e in
    let less : length (skip_from false rest) ≤ length rest = skip_len false rest in
    omega arith

comment_skips : (text rest : List ℕ) → text ≡ 35 ∷ rest → skip_from false text ≡ text → ⊥
comment_skips text rest cut skips =
    let same : length (35 ∷ rest) ≡ length (skip_from true rest) = ap length (sym cut) ∙ ap length (sym skips) ∙ ap (λ x. length (skip_from false x)) cut in
    let less : length (skip_from true rest) ≤ length rest = skip_len true rest in
    omega arith

-- a cut of a text with no white space and no comment in front
token_first : {text : List ℕ} {ts : List Token} → skip_from false text ≡ text → Cuts text ts → BeginsWith text ts
token_first skips end = ends refl refl
token_first skips (space {b} {rest} {ts} e c) = absurd (space_skips b rest e skips)
token_first skips (comment {text} {rest} {ts} inner cut all at c) = absurd (comment_skips text (inner ++ rest) cut skips)
token_first skips (token {text} {front} {rest} {t} {ts} is c) = begins front rest t ts is c refl

word_len : (w : List ℕ) → IsWord w → 0 < length w
word_len [] is = absurd is
word_len (b ∷ bs) is = omega arith

digits_len : (n : List ℕ) → AreDigits n → 0 < length n
digits_len [] are = absurd are
digits_len (b ∷ bs) are = omega arith

sign_len : (s : Sign) → 0 < length (sign_text s)
sign_len signs.OpenBrace = omega arith
sign_len signs.CloseBrace = omega arith
sign_len signs.OpenParen = omega arith
sign_len signs.CloseParen = omega arith
sign_len signs.Dot = omega arith
sign_len signs.Semicolon = omega arith
sign_len signs.Comma = omega arith
sign_len signs.Carets = omega arith
sign_len signs.Equal = omega arith
sign_len signs.NotEqual = omega arith
sign_len signs.Less = omega arith
sign_len signs.Greater = omega arith
sign_len signs.LessEqual = omega arith
sign_len signs.GreaterEqual = omega arith
sign_len signs.Ampersands = omega arith
sign_len signs.Bars = omega arith
sign_len signs.Bang = omega arith
sign_len signs.Plus = omega arith
sign_len signs.Minus = omega arith
sign_len signs.Star = omega arith

pub token_len : {front after : List ℕ} {t : Token} → IsToken front after t → 0 < length front
token_len (iri {i} is) = omega arith
token_len (name {p} {l} prefix local) = omega (arith, length-append p (58 ∷ l))
token_len (variable {m} {v} mark is) = omega arith
token_len (blank is) = omega arith
token_len (string {quote = q} written quote s utf8) = omega arith
token_len (tag is) = omega arith
token_len (integer {n} are _) = digits_len n are
token_len (word {w} is) = word_len w is
token_len (sign s) = sign_len s

no_front : (front rest : List ℕ) → [] ≡ front ++ rest → 0 < length front → ⊥
no_front [] rest e some = omega arith
no_front (b ∷ bs) rest e some = absurd cc

cut_nil : (rest : List ℕ) (all : List Token) → rest ≡ [] → BeginsWith rest all → all ≡ []
cut_nil rest all nothing (begins front r u ts is c all-is) = absurd (no_front front r (sym nothing ∙ is.cut) (token_len is.is))
cut_nil rest all nothing (ends e all-is) = all-is

pub cut_done : (text : List ℕ) (before : List Token) (rest : List ℕ) → IsCutSoFar text before rest → length rest ≡ 0 → Cuts text before × ((ts : List Token) → Cuts text ts → ts ≡ before)
cut_done text before rest so_far none =
    let nothing : rest ≡ [] = nil_from_length rest none in (
      subst (λ ts. Cuts text ts) (append-nil before) (so_far.more [] (subst (λ r. Cuts r []) (sym nothing) end)),
      λ ts c. let o = so_far.only ts c in o.1 ∙ ap (λ (later : List Token). before ++ later) (cut_nil rest o.0 nothing (token_first so_far.skips o.2)) ∙ append-nil before,
    )

pub is_stuck : (text : List ℕ) (r : Result (Vec Token) Stop) (e : Stop) → r ≡ Err e → e ≡ stop.NoReading → ((ts : List Token) → Cuts text ts → ⊥) → IsCut text r
is_stuck text r e r-is e-is nothing = subst (λ r. IsCut text r) (sym (r-is ∙ ap (λ (e : Stop). let r : Result (Vec Token) Stop = Err e in r) e-is)) nothing

-- ---- by the law of runs

module _ (runs : RunsAreLongest) where
  -- what is cut after the white space and comments is cut before them
  mutual
    unskip : (bs : List ℕ) (ts : List Token) → Cuts (skip_from false bs) ts → Cuts bs ts
    unskip [] ts c = c
    unskip (b ∷ bs) ts c =
        elim (is_space b) as (λ t. is_space b ≡ t → Cuts (cond t (skip_from false bs) (cond (eqb b 35) (skip_from true bs) (b ∷ bs))) ts → Cuts (b ∷ bs) ts) [
          | true ↦ λ e c. space e (unskip bs ts c)
          | false ↦ λ e c. elim (eqb b 35) as (λ t. eqb b 35 ≡ t → Cuts (cond t (skip_from true bs) (b ∷ bs)) ts → Cuts (b ∷ bs) ts) [
            | true ↦ λ e c. comment (run_of is_inner bs) (ap (λ (x : ℕ). x ∷ bs) (eqb-true b 35 e) ∙ ap (λ (r : List ℕ). 35 ∷ r) (sym (run-rest runs is_inner bs))) (all-run runs is_inner bs) (inner_rest bs) (unskip_comment bs ts c)
            | false ↦ λ e c. c
          ] refl c
        ] refl c

    unskip_comment : (bs : List ℕ) (ts : List Token) → Cuts (skip_from true bs) ts → Cuts (rest_of is_inner bs) ts
    unskip_comment [] ts c = c
    unskip_comment (b ∷ bs) ts c =
        elim (is_inner b) as (λ t. is_inner b ≡ t → Cuts (cond t (skip_from true bs) (skip_from false bs)) ts → Cuts (cond t (rest_of is_inner bs) (b ∷ bs)) ts) [
          | true ↦ λ e c. unskip_comment bs ts c
          | false ↦ λ e c. space (line_end_space b e) (unskip bs ts c)
        ] refl c

  pub cut_start : (text : List ℕ) → IsCutSoFar text [] (skip_from false text)
  cut_start text = record { more = λ later c. unskip text later c; only = λ all c. (all, refl, skipped c); skips = skip_twice false text }

  stuck : (rest : List ℕ) (all : List Token) → 0 < length rest → token_at rest ≡ None → BeginsWith rest all → ⊥
  stuck rest all some e (begins front r u ts is c all-is) = none_begins runs rest front r u e is.cut is.is is.free
  stuck rest all some e (ends nothing all-is) = let none : length rest ≡ 0 = ap length nothing in omega arith

  pub cut_smaller : (rest : List ℕ) (t : Token) (after : List ℕ) → token_at rest ≡ Some (t, after) → length (skip_from false after) < length rest
  cut_smaller rest t after e =
      let found = token_found runs rest t after e in
      let f = found.at in
      let some : 0 < length f.front = token_len f.is in
      let whole : length rest ≡ length (f.front ++ after) = ap length f.cut in
      omega (arith, length-append f.front after, skip_len false after)

  -- the first token of what is left
  first_is : (rest : List ℕ) (t : Token) (after : List ℕ) (all : List Token) → token_at rest ≡ Some (t, after) → BeginsWith rest all → (later : List Token) × (all ≡ t ∷ later) × Cuts after later
  unfolding token_at
  first_is rest t after all e (begins front r u ts is c all-is) =
      let same = same_Some (u, r) (t, after) (sym (longest_again runs rest front r u is) ∙ e) in
      (ts, all-is ∙ ap (λ (x : Token). x ∷ ts) (ap (λ (y : Token × List ℕ). y.0) same), subst (λ x. Cuts x ts) (ap (λ (y : Token × List ℕ). y.1) same) c)
  first_is rest t after all e (ends nothing all-is) = absurd (none-some (t, after) (ap token_at (sym nothing) ∙ e))

  pub cut_more : (text : List ℕ) (before : List Token) (rest : List ℕ) (t : Token) (after : List ℕ) → IsCutSoFar text before rest → token_at rest ≡ Some (t, after) → IsCutSoFar text (before ++ t ∷ []) (skip_from false after)
  cut_more text before rest t after so_far e =
      let l = longest_found runs rest t after e in
      record {
        more = λ later c. subst (λ ts. Cuts text ts) (sym (append_assoc before (t ∷ []) later)) (so_far.more (t ∷ later) (token l.1 (unskip after later c)));
        only = λ all c.
            let o = so_far.only all c in
            let f = first_is rest t after o.0 e (token_first so_far.skips o.2) in
            (f.0, o.1 ∙ ap (λ (ts : List Token). before ++ ts) f.1 ∙ sym (append_assoc before (t ∷ []) f.0), skipped f.2);
        skips = skip_twice false after;
      }

  -- what was known of the text is known of what is left
  pub cut_edge : (rest : List ℕ) (t : Token) (after : List ℕ) (edge : ℕ) → token_at rest ≡ Some (t, after) → NoneAhead rest edge → NoneAhead (skip_from false after) edge
  cut_edge rest t after edge e ahead =
      let found = token_found runs rest t after e in
      let f = found.at in
      edge_skip after edge (edge_after rest f.front after edge f.cut ahead)

  pub cut_stuck : (text : List ℕ) (before : List Token) (rest : List ℕ) → IsCutSoFar text before rest → 0 < length rest → token_at rest ≡ None → (ts : List Token) → Cuts text ts → ⊥
  cut_stuck text before rest so_far some e ts c =
      let o = so_far.only ts c in
      stuck rest o.0 some e (token_first so_far.skips o.2)

  one_first : (rest : List ℕ) (us : List Token) (front after : List ℕ) (t : Token) (ts : List Token) → IsLongest rest front after t → BeginsWith rest us → (later : List Token) × (us ≡ t ∷ later) × Cuts after later
  one_first rest us front after t ts is other = first_is rest t after us (longest_again runs rest front after t is) other

  -- a text of at most n bytes, at the place of a token or at its end
  one_from : (n : ℕ) (rest : List ℕ) (ts us : List Token) → length rest < n → BeginsWith rest ts → BeginsWith rest us → ts ≡ us
  one_from zero rest ts us less a b = absurd (omega arith)
  one_from (suc n) rest ts us less (ends nothing ts-is) b = ts-is ∙ sym (cut_nil rest us nothing b)
  one_from (suc n) rest ts us less (begins front after t later is c ts-is) b =
      let o = one_first rest us front after t later is b in
      let some : 0 < length front = token_len is.is in
      let whole : length rest ≡ length (front ++ after) = ap length is.cut in
      let shorter : length (skip_from false after) < n = omega (arith, length-append front after, skip_len false after) in
      ts-is
      ∙ ap (λ (x : List Token). t ∷ x) (one_from n (skip_from false after) later o.0 shorter (token_first (skip_twice false after) (skipped c)) (token_first (skip_twice false after) (skipped o.2)))
      ∙ sym o.1

  -- a text is cut into at most one list of tokens
  pub one_cut : (text : List ℕ) (ts us : List Token) → Cuts text ts → Cuts text us → ts ≡ us
  one_cut text ts us c d = one_from (suc (length (skip_from false text))) (skip_from false text) ts us (omega arith) (token_first (skip_twice false text) (skipped c)) (token_first (skip_twice false text) (skipped d))
