-- Cutting from left to right gives the texts between separators.
use Rattle.std.proofs.Common.{◌≡◌, ℕ, ◌+◌, ◌-◌, ◌⊎◌, inl, inr, add-one, length-append, length-drop, ◌≤◌, ◌<◌, Bool, true, false, cond, eqb, List, [], ◌∷◌, ◌++◌, length, take, drop, get_or, refl, sym, ap, ◌∙◌, subst, arith, append_assoc}
use Rattle.std.specs.Prelude.{◌&&◌, not, IsUtf8}
use Rattle.std.specs.List.{onto_first}
use Rattle.std.specs.Str.{IsCharBoundary}
use Rattle.std.proofs.lemmas.Bool.{eqb-true, and_parts}
use Rattle.std.proofs.lemmas.List.{take_at, drop_at, append-nil, nil_from_length}
use Rattle.std.proofs.lemmas.Str.{IsCharBoundary-before_ascii, IsCharBoundary-after_ascii, IsCharBoundary-end}
use Rattle.rules.specs.Requests.{whole_lines, is_separator, onto_text, texts_of, requests, AreEach, none, more, IsBlockText, IsSplitInto}
use Rattle.std.specs.Prelude.{Ok, Err}
use Rattle.std.specs.Borrow.{Bor}
use Rattle.rules.specs.declared.fault.BlockFault.{BlockFault}
use Rattle.rules.specs.declared.fault.BlockFault.TheVariants as block_fault
use Rattle.rules.specs.Cutting.{begins_separator, text_from, rest_from, after_separator}

-- ---- separators

separator_is : (bs : List ℕ) → begins_separator bs ≡ true → bs ≡ 45 ∷ 45 ∷ 45 ∷ 45 ∷ 10 ∷ drop 5 bs
separator_is [] e = absurd cc
separator_is (a ∷ []) e = absurd cc
separator_is (a ∷ b ∷ []) e = absurd cc
separator_is (a ∷ b ∷ c ∷ []) e = absurd cc
separator_is (a ∷ b ∷ c ∷ d ∷ []) e = absurd cc
separator_is (a ∷ b ∷ c ∷ d ∷ f ∷ bs) e =
    let e4 = and_parts (eqb a 45 && eqb b 45 && eqb c 45 && eqb d 45) (eqb f 10) e in
    let e3 = and_parts (eqb a 45 && eqb b 45 && eqb c 45) (eqb d 45) e4.0 in
    let e2 = and_parts (eqb a 45 && eqb b 45) (eqb c 45) e3.0 in
    let e1 = and_parts (eqb a 45) (eqb b 45) e2.0 in
    λ i. eqb-true a 45 e1.0 i ∷ eqb-true b 45 e1.1 i ∷ eqb-true c 45 e2.1 i ∷ eqb-true d 45 e3.1 i ∷ eqb-true f 10 e4.1 i ∷ bs

line_is : (bs : List ℕ) → is_separator bs ≡ true → bs ≡ 45 ∷ 45 ∷ 45 ∷ 45 ∷ 10 ∷ []
line_is [] e = absurd cc
line_is (a ∷ []) e = absurd cc
line_is (a ∷ b ∷ []) e = absurd cc
line_is (a ∷ b ∷ c ∷ []) e = absurd cc
line_is (a ∷ b ∷ c ∷ d ∷ []) e = absurd cc
line_is (a ∷ b ∷ c ∷ d ∷ f ∷ []) e = separator_is (a ∷ b ∷ c ∷ d ∷ f ∷ []) e
line_is (a ∷ b ∷ c ∷ d ∷ f ∷ g ∷ bs) e = absurd cc

-- ---- the first line

abbrev first_line : List (List ℕ) → List ℕ
first_line [] = []
first_line (line ∷ lines) = line

first_onto : (b : ℕ) (lines : List (List ℕ)) → first_line (onto_first b lines) ≡ b ∷ first_line lines
first_onto b [] = refl
first_onto b (line ∷ lines) = refl

first_is : (bs : List ℕ) → (rest : List ℕ) × (bs ≡ first_line (whole_lines bs) ++ rest)
first_is [] = ([], refl)
first_is (b ∷ bs) =
    elim (eqb b 10) as (λ t. eqb b 10 ≡ t → (rest : List ℕ) × (b ∷ bs ≡ first_line (cond t ((10 ∷ []) ∷ whole_lines bs) (onto_first b (whole_lines bs))) ++ rest)) [
      | true ↦ λ e. (bs, ap (λ (x : ℕ). x ∷ bs) (eqb-true b 10 e))
      | false ↦ λ e. let f = first_is bs in (f.0, ap (λ (r : List ℕ). b ∷ r) f.1 ∙ ap (λ (r : List ℕ). r ++ f.0) (sym (first_onto b (whole_lines bs))))
    ] refl

line_begins : (bs : List ℕ) → is_separator (first_line (whole_lines bs)) ≡ true → begins_separator bs ≡ true
line_begins bs e =
    let f = first_is bs in
    ap begins_separator (f.1 ∙ ap (λ (line : List ℕ). line ++ f.0) (line_is (first_line (whole_lines bs)) e))

-- ---- texts

-- lines of which the first goes on a line
abbrev continued : List (List ℕ) → List (List ℕ)
continued [] = [] ∷ []
continued (line ∷ lines) = onto_text line (texts_of lines)

no_separator : (lines : List (List ℕ)) → is_separator (first_line lines) ≡ false → texts_of lines ≡ continued lines
no_separator [] e = refl
no_separator (line ∷ lines) e = ap (λ b. cond b ([] ∷ texts_of lines) (onto_text line (texts_of lines))) e

onto_front : (b : ℕ) (line : List ℕ) (texts : List (List ℕ)) → onto_text (b ∷ line) texts ≡ onto_text (b ∷ []) (onto_text line texts)
onto_front b line [] = refl
onto_front b line (text ∷ texts) = refl

continued_onto : (b : ℕ) (lines : List (List ℕ)) → continued (onto_first b lines) ≡ onto_text (b ∷ []) (continued lines)
continued_onto b [] = refl
continued_onto b (line ∷ lines) = onto_front b line (texts_of lines)

-- what follows the first text
abbrev pub later : List ℕ → List (List ℕ)
later [] = []
later (b ∷ bs) = texts_of (whole_lines (after_separator (b ∷ bs)))

not_line : (bs : List ℕ) → begins_separator bs ≡ false → is_separator (first_line (whole_lines bs)) ≡ false
not_line bs e = elim (is_separator (first_line (whole_lines bs))) as (λ t. is_separator (first_line (whole_lines bs)) ≡ t → t ≡ false) [ true ↦ λ h. sym (line_begins bs h) ∙ e | false ↦ λ h. refl ] refl

at_separator : (bs : List ℕ) → begins_separator bs ≡ true → texts_of (whole_lines bs) ≡ [] ∷ texts_of (whole_lines (after_separator bs))
at_separator bs e =
    ap (λ (x : List ℕ). texts_of (whole_lines x)) (separator_is bs e)
    ∙ ap (λ t. [] ∷ texts_of (whole_lines (cond t (drop 5 bs) []))) (sym e)

middle_step : (b : ℕ) (bs : List ℕ) → texts_of (whole_lines bs) ≡ text_from true bs ∷ later (rest_from true bs) → continued (whole_lines bs) ≡ text_from false bs ∷ later (rest_from false bs)
    → continued (whole_lines (b ∷ bs)) ≡ (b ∷ text_from (eqb b 10) bs) ∷ later (rest_from (eqb b 10) bs)
middle_step b bs starting going_on =
    elim (eqb b 10) as (λ t. eqb b 10 ≡ t → continued (cond t ((10 ∷ []) ∷ whole_lines bs) (onto_first b (whole_lines bs))) ≡ (b ∷ text_from t bs) ∷ later (rest_from t bs)) [
      | true ↦ λ e. ap (onto_text (10 ∷ [])) starting ∙ ap (λ (x : ℕ). (x ∷ text_from true bs) ∷ later (rest_from true bs)) (sym (eqb-true b 10 e))
      | false ↦ λ e. continued_onto b (whole_lines bs) ∙ ap (onto_text (b ∷ [])) going_on
    ] refl

mutual
  -- within a line
  middle : (bs : List ℕ) → continued (whole_lines bs) ≡ text_from false bs ∷ later (rest_from false bs)
  middle [] = refl
  middle (b ∷ bs) = middle_step b bs (texts_step bs) (middle bs)

  -- at the start of a line
  pub texts_step : (bs : List ℕ) → texts_of (whole_lines bs) ≡ text_from true bs ∷ later (rest_from true bs)
  texts_step [] = refl
  texts_step (b ∷ bs) =
      elim (begins_separator (b ∷ bs)) as (λ t. begins_separator (b ∷ bs) ≡ t → texts_of (whole_lines (b ∷ bs)) ≡ cond t [] (b ∷ text_from (eqb b 10) bs) ∷ later (cond t (b ∷ bs) (rest_from (eqb b 10) bs))) [
        | true ↦ λ e. at_separator (b ∷ bs) e
        | false ↦ λ e. no_separator (whole_lines (b ∷ bs)) (not_line (b ∷ bs) e) ∙ middle_step b bs (texts_step bs) (middle bs)
      ] refl

-- ---- slices

pub whole : (starts : Bool) (bs : List ℕ) → text_from starts bs ++ rest_from starts bs ≡ bs
whole starts [] = refl
whole starts (b ∷ bs) =
    elim (starts && begins_separator (b ∷ bs)) as (λ t. cond t [] (b ∷ text_from (eqb b 10) bs) ++ cond t (b ∷ bs) (rest_from (eqb b 10) bs) ≡ b ∷ bs) [
      | true ↦ refl
      | false ↦ ap (λ (r : List ℕ). b ∷ r) (whole (eqb b 10) bs)
    ]

pub take_text : (bs : List ℕ) → take (length (text_from true bs)) bs ≡ text_from true bs
take_text bs = ap (take (length (text_from true bs))) (sym (whole true bs)) ∙ take_at (text_from true bs) (rest_from true bs) (length (text_from true bs)) refl

pub cut_rest : (bs : List ℕ) → drop (length (text_from true bs)) bs ≡ rest_from true bs
cut_rest bs = ap (drop (length (text_from true bs))) (sym (whole true bs)) ∙ drop_at (text_from true bs) (rest_from true bs) (length (text_from true bs)) refl

-- ---- places

get_seam : (xs : List ℕ) (y : ℕ) (ys : List ℕ) → get_or (xs ++ y ∷ ys) (length xs) 0 ≡ y
get_seam [] y ys = refl
get_seam (x ∷ xs) y ys = get_seam xs y ys

-- the text may be cut behind a separator
pub cut_after : (bs : List ℕ) → IsUtf8 bs → begins_separator bs ≡ true → IsCharBoundary bs 5
cut_after bs utf8 e =
    let is = separator_is bs e in
    let long : length bs ≡ length (45 ∷ 45 ∷ 45 ∷ 45 ∷ 10 ∷ drop 5 bs) = ap length is in
    let last : get_or bs 4 0 ≡ 10 = ap (λ (x : List ℕ). get_or x 4 0) is in
    IsCharBoundary-after_ascii bs 4 utf8 (omega arith) (omega arith)

rest_begins : (starts : Bool) (bs : List ℕ) → (rest_from starts bs ≡ []) ⊎ (begins_separator (rest_from starts bs) ≡ true)
rest_begins starts [] = inl refl
rest_begins true (b ∷ bs) =
    elim (begins_separator (b ∷ bs)) as (λ t. begins_separator (b ∷ bs) ≡ t → (cond t (b ∷ bs) (rest_from (eqb b 10) bs) ≡ []) ⊎ (begins_separator (cond t (b ∷ bs) (rest_from (eqb b 10) bs)) ≡ true)) [
      | true ↦ λ e. inr e
      | false ↦ λ e. rest_begins (eqb b 10) bs
    ] refl
rest_begins false (b ∷ bs) = rest_begins (eqb b 10) bs

-- and before one
pub cut_before : (bs : List ℕ) → IsUtf8 bs → IsCharBoundary bs (length (text_from true bs))
cut_before bs utf8 =
    elim (rest_begins true bs) [
      | inl e ↦
          let all : text_from true bs ≡ bs = sym (append-nil (text_from true bs)) ∙ ap (λ (r : List ℕ). text_from true bs ++ r) (sym e) ∙ whole true bs in
          subst (λ n. IsCharBoundary bs n) (sym (ap length all)) (IsCharBoundary-end bs)
      | inr e ↦
          let is = separator_is (rest_from true bs) e in
          let front : List ℕ = text_from true bs in
          let cut : bs ≡ front ++ 45 ∷ 45 ∷ 45 ∷ 45 ∷ 10 ∷ drop 5 (rest_from true bs) = sym (whole true bs) ∙ ap (λ (r : List ℕ). front ++ r) is in
          let long : length bs ≡ length (front ++ 45 ∷ 45 ∷ 45 ∷ 45 ∷ 10 ∷ drop 5 (rest_from true bs)) = ap length cut in
          let dash : get_or bs (length front) 0 ≡ 45 = ap (λ (x : List ℕ). get_or x (length front) 0) cut ∙ get_seam front 45 (45 ∷ 45 ∷ 45 ∷ 10 ∷ drop 5 (rest_from true bs)) in
          IsCharBoundary-before_ascii bs (length front) (omega (arith, length-append front (45 ∷ 45 ∷ 45 ∷ 45 ∷ 10 ∷ drop 5 (rest_from true bs)))) (omega arith)
    ]

-- ---- the loops

pub after_shorter : (bs : List ℕ) → length (after_separator bs) ≤ length bs - 5
after_shorter bs = elim (begins_separator bs) as (λ t. length (cond t (drop 5 bs) []) ≤ length bs - 5) [ true ↦ omega (arith, length-drop 5 bs) | false ↦ omega arith ]

pub rest_shorter : (bs : List ℕ) → length (rest_from true bs) ≤ length bs
rest_shorter bs = let same : length (text_from true bs ++ rest_from true bs) ≡ length bs = ap length (whole true bs) in omega (arith, length-append (text_from true bs) (rest_from true bs))

is_some : (b : ℕ) (bs : List ℕ) → not (eqb (length (b ∷ bs)) 0) ≡ true
is_some b bs = elim (eqb (length (b ∷ bs)) 0) as (λ t. eqb (length (b ∷ bs)) 0 ≡ t → not t ≡ true) [ true ↦ λ e. let zero = eqb-true (length (b ∷ bs)) 0 e in absurd (omega arith) | false ↦ λ e. refl ] refl

-- one text, and those of what follows
count_next : (bs after : List ℕ) (next : Bool) → after ≡ rest_from true bs → next ≡ not (eqb (length after) 0) → cond next (length (texts_of (whole_lines (after_separator after)))) 0 + 1 ≡ length (texts_of (whole_lines bs))
count_next bs [] next after-is e = ap (λ t. cond t (length (texts_of (whole_lines (after_separator [])))) 0 + 1) e ∙ sym (ap length (texts_step bs ∙ ap (λ (r : List ℕ). text_from true bs ∷ later r) (sym after-is)))
count_next bs (b ∷ after) next after-is e =
    ap (λ t. cond t (length (texts_of (whole_lines (after_separator (b ∷ after))))) 0 + 1) (e ∙ is_some b after)
    ∙ add-one (length (texts_of (whole_lines (after_separator (b ∷ after)))))
    ∙ sym (ap length (texts_step bs ∙ ap (λ (r : List ℕ). text_from true bs ∷ later r) (sym after-is)))

pub text_within : (bs : List ℕ) → length (text_from true bs) ≤ length bs
text_within bs = let same : length (text_from true bs ++ rest_from true bs) ≡ length bs = ap length (whole true bs) in omega (arith, length-append (text_from true bs) (rest_from true bs))

-- a turn of a loop over the texts: what it leaves is shorter
pub turn_smaller : (bs after rest : List ℕ) (goes_on next : Bool) → goes_on ≡ true → after ≡ rest_from true bs → rest ≡ after_separator after → next ≡ not (eqb (length after) 0)
    → cond next (length rest + 1) 0 < cond goes_on (length bs + 1) 0
turn_smaller bs [] rest goes_on next goes after-is rest-is e =
    subst (λ t. cond next (length rest + 1) 0 < cond t (length bs + 1) 0) (sym goes) (subst (λ t. cond t (length rest + 1) 0 < length bs + 1) (sym e) (omega arith))
turn_smaller bs (b ∷ after) rest goes_on next goes after-is rest-is e =
    let short = after_shorter (b ∷ after) in
    let same : length (b ∷ after) ≡ length (rest_from true bs) = ap length after-is in
    let rests : length rest ≡ length (after_separator (b ∷ after)) = ap length rest-is in
    let within = rest_shorter bs in
    let less : length rest + 1 < length bs + 1 = omega arith in
    subst (λ t. cond next (length rest + 1) 0 < cond t (length bs + 1) 0) (sym goes) (subst (λ t. cond t (length rest + 1) 0 < length bs + 1) (sym (e ∙ is_some b after)) less)

pub turn_counts : (count : ℕ) (all bs after rest : List ℕ) (goes_on next : Bool) → goes_on ≡ true → after ≡ rest_from true bs → rest ≡ after_separator after → next ≡ not (eqb (length after) 0)
    → count + cond goes_on (length (texts_of (whole_lines bs))) 0 ≡ length (texts_of (whole_lines all)) → count + 1 + cond next (length (texts_of (whole_lines rest))) 0 ≡ length (texts_of (whole_lines all))
turn_counts count all bs after rest goes_on next goes after-is rest-is e total =
    let one = count_next bs after next after-is e in
    let before : count + length (texts_of (whole_lines bs)) ≡ length (texts_of (whole_lines all)) = ap (λ t. count + cond t (length (texts_of (whole_lines bs))) 0) (sym goes) ∙ total in
    let rests : cond next (length (texts_of (whole_lines rest))) 0 ≡ cond next (length (texts_of (whole_lines (after_separator after)))) 0 = ap (λ (r : List ℕ). cond next (length (texts_of (whole_lines r))) 0) rest-is in
    omega (arith, one, before, rests)

pub turn_bound : (count : ℕ) (all bs after rest : List ℕ) (next : Bool) → after ≡ rest_from true bs → rest ≡ after_separator after → next ≡ not (eqb (length after) 0) → count + length bs ≤ length all → next ≡ true → count + 1 + length rest ≤ length all
turn_bound count all bs [] rest next after-is rest-is e bound goes = let wrong : false ≡ true = sym e ∙ goes in absurd cc
turn_bound count all bs (b ∷ after) rest next after-is rest-is e bound goes =
    let short = after_shorter (b ∷ after) in
    let same : length (b ∷ after) ≡ length (rest_from true bs) = ap length after-is in
    let rests : length rest ≡ length (after_separator (b ∷ after)) = ap length rest-is in
    let within = rest_shorter bs in
    omega arith

-- where each text gives an answer
module _ {A : Type 0} (P : List ℕ → A → Type 0) where
  -- what has its answer, and what is left
  abbrev pub SoFar : List ℕ → Bool → List A → List ℕ → Type 0
  SoFar text true found rest = (cs : List A) → AreEach P (texts_of (whole_lines rest)) cs → AreEach P (texts_of (whole_lines text)) (found ++ cs)
  SoFar text false found rest = AreEach P (texts_of (whole_lines text)) found

  pub answered_next : (text : List ℕ) (found : List A) (rest request after : List ℕ) (c : A) (goes_on : Bool) → SoFar text true found rest → request ≡ text_from true rest → after ≡ rest_from true rest → P request c
      → goes_on ≡ not (eqb (length after) 0) → SoFar text goes_on (found ++ c ∷ []) (after_separator after)
  answered_next text found rest request [] c goes_on so_far request-is after-is is e =
      let texts : texts_of (whole_lines rest) ≡ request ∷ [] = texts_step rest ∙ (let r = sym request-is in let a = sym after-is in λ i. r i ∷ later (a i)) in
      subst (λ t. SoFar text t (found ++ c ∷ []) (after_separator [])) (sym e) (so_far (c ∷ []) (subst (λ (ts : List (List ℕ)). AreEach P ts (c ∷ [])) (sym texts) (more is none)))
  answered_next text found rest request (b ∷ after) c goes_on so_far request-is after-is is e =
      let texts : texts_of (whole_lines rest) ≡ request ∷ texts_of (whole_lines (after_separator (b ∷ after))) = texts_step rest ∙ (let r = sym request-is in let a = sym after-is in λ i. r i ∷ later (a i)) in
      subst (λ t. SoFar text t (found ++ c ∷ []) (after_separator (b ∷ after))) (sym (e ∙ is_some b after))
      (λ cs are. subst (λ (all : List A). AreEach P (texts_of (whole_lines text)) all) (sym (append_assoc found (c ∷ []) cs)) (so_far (c ∷ cs) (subst (λ (ts : List (List ℕ)). AreEach P ts (c ∷ cs)) (sym texts) (more is are))))

  pub nothing_answered : (text : List ℕ) (cs : List A) → length text ≡ 0 → cs ≡ [] → AreEach P (requests text) cs
  nothing_answered text cs zero nothing =
      subst (λ (x : List ℕ). AreEach P (requests x) cs) (sym (nil_from_length text zero)) (subst (λ (cs : List A). AreEach P [] cs) (sym nothing) none)

-- ---- blocks

pub split_fault : {A : Type 0} (P : List ℕ → A → Type 0) (bytes : List ℕ) (e : BlockFault) → IsBlockText bytes (Err e) → IsSplitInto P bytes (Err e)
split_fault P bytes block_fault.OutOfMemory h = absurd h
split_fault P bytes block_fault.TooLong h = h
split_fault P bytes block_fault.TooManyRequests h = h
split_fault P bytes block_fault.BadUtf8 h = h

pub split_whole : {A : Type 0} (P : List ℕ → A → Type 0) (bytes : List ℕ) (text : Bor (List ℕ)) (block : List A) → IsBlockText bytes (Ok text) → AreEach P (requests text.now) block → IsSplitInto P bytes (Ok block)
split_whole P bytes text block h each = (h.1, h.2, h.3, subst (λ (bs : List ℕ). AreEach P (requests bs) block) h.0 each)

pub ruleset splits = (split_fault, split_whole)
