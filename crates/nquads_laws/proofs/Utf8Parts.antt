-- What stands in a line that is UTF-8 is UTF-8.
use Rattle.std.specs.Prelude.{ℕ, ◌<◌}
use Rattle.std.proofs.Common.{◌≡◌, true, false, cond, eqb, List, [], ◌∷◌, ◌++◌, Option, Some, None, refl, sym, subst, IsUtf8, append_assoc, arith}
use Rattle.std.specs.List.{list_all}
use Rattle.std.specs.Char.{IsScalar, encode_utf8, is_ascii_hexdigit}
use Rattle.std.proofs.lemmas.Bool.{eqb-true, ltb-true, lt-ltb, and_parts}
use Rattle.std.proofs.lemmas.Bool.Decides.{nat_tests}
use Rattle.std.proofs.lemmas.List.{append-nil}
use Rattle.std.proofs.lemmas.Str.{IsUtf8-append, IsUtf8-encode}
use Rattle.sets.proofs.Filters.{each_weaker}
use Rattle.iris.specs.Forms.{short_escape}
use Rattle.nquads_lines.specs.Escapes.{CodeAt, StringAt, IriTextAt, IriAt}
use Rattle.nquads_lines.specs.Line.{is_blank, Gap}
use Rattle.nquads_laws.proofs.Bytes.{is_ascii}
use Rattle.nquads_laws.proofs.Pieces.{utf8_byte, split_ascii}

-- ---- past ASCII bytes

pub past : (b : ℕ) (rest : List ℕ) → b < 128 → IsUtf8 (b ∷ rest) → IsUtf8 rest
past b rest low u = (split_ascii [] b rest low u).1

pub past_all : (bs rest : List ℕ) → list_all is_ascii bs ≡ true → IsUtf8 (bs ++ rest) → IsUtf8 rest
past_all [] rest e u = u
past_all (b ∷ bs) rest e u = let h = and_parts (is_ascii b) (list_all is_ascii bs) e in past_all bs rest h.1 (past b (bs ++ rest) (ltb-true b 128 h.0) u)

hex_low : (b : ℕ) → is_ascii_hexdigit b ≡ true → b < 128
hex_low b e = grind (arith, nat_tests)

hex_ascii : (b : ℕ) → is_ascii_hexdigit b ≡ true → is_ascii b ≡ true
hex_ascii b e = lt-ltb b 128 (hex_low b e)

blank_low : (b : ℕ) → is_blank b ≡ true → b < 128
blank_low b e = grind (arith, nat_tests)

blank_ascii : (b : ℕ) → is_blank b ≡ true → is_ascii b ≡ true
blank_ascii b e = lt-ltb b 128 (blank_low b e)

pub past_gap : (text rest : List ℕ) → Gap text rest → IsUtf8 text → IsUtf8 rest
past_gap text rest gap u = past_all gap.blanks rest (each_weaker is_blank is_ascii blank_ascii gap.blanks gap.each) (subst IsUtf8 gap.cut u)

-- ---- escapes

abbrev AreLow : ℕ → ℕ → Type 0
AreLow b c = (b < 128) × (c < 128)

low_step : (b k v c : ℕ) (rest : Option ℕ) → k < 128 → v < 128 → (rest ≡ Some c → AreLow b c) → cond (eqb b k) (Some v) rest ≡ Some c → AreLow b c
low_step b k v c rest low low' later =
    elim (eqb b k) as (λ t. eqb b k ≡ t → cond t (Some v) rest ≡ Some c → AreLow b c) [
      | true ↦ λ e h. let same : v ≡ c = cc in (subst (λ x. x < 128) (sym (eqb-true b k e)) low, subst (λ x. x < 128) same low')
      | false ↦ λ e h. later h
    ] refl

short_low : (b c : ℕ) → short_escape b ≡ Some c → AreLow b c
short_low b c =
    low_step b 116 9 c _ (omega arith) (omega arith)
    (low_step b 98 8 c _ (omega arith) (omega arith)
    (low_step b 110 10 c _ (omega arith) (omega arith)
    (low_step b 114 13 c _ (omega arith) (omega arith)
    (low_step b 102 12 c _ (omega arith) (omega arith)
    (low_step b 34 34 c _ (omega arith) (omega arith)
    (low_step b 39 39 c _ (omega arith) (omega arith)
    (low_step b 92 92 c None (omega arith) (omega arith) (λ h. absurd cc))))))))

record AroundCode (front : List ℕ) (c : ℕ) (after : List ℕ) : Type 0 where
  before : IsUtf8 front
  behind : IsUtf8 after
  scalar : IsScalar c

around_code : (front : List ℕ) {text after : List ℕ} {c : ℕ} → CodeAt text c after → IsUtf8 (front ++ text) → AroundCode front c after
around_code front (CodeAt.small hex {rest} long digits scalar) u =
    let h = split_ascii front 92 (117 ∷ (hex ++ rest)) (omega arith) u in
    record { before = h.0; behind = past_all hex rest (each_weaker is_ascii_hexdigit is_ascii hex_ascii hex digits) (past 117 (hex ++ rest) (omega arith) h.1); scalar = scalar }
around_code front (CodeAt.large hex {rest} long digits scalar) u =
    let h = split_ascii front 92 (85 ∷ (hex ++ rest)) (omega arith) u in
    record { before = h.0; behind = past_all hex rest (each_weaker is_ascii_hexdigit is_ascii hex_ascii hex digits) (past 85 (hex ++ rest) (omega arith) h.1); scalar = scalar }

-- one more byte in front
shifted : (front : List ℕ) (b : ℕ) (text : List ℕ) → IsUtf8 (front ++ b ∷ text) → IsUtf8 ((front ++ b ∷ []) ++ text)
shifted front b text u = subst IsUtf8 (sym (append_assoc front (b ∷ []) text)) u

pub string_parts : (front : List ℕ) {text value rest : List ℕ} → StringAt text value rest → IsUtf8 (front ++ text) → IsUtf8 (front ++ value) × IsUtf8 rest
string_parts front (StringAt.close {rest}) u =
    let h = split_ascii front 34 rest (omega arith) u in
    (subst IsUtf8 (sym (append-nil front)) h.0, h.1)
string_parts front (StringAt.plain {b} {text} {value} {rest} e at) u =
    let h = string_parts (front ++ b ∷ []) at (shifted front b text u) in
    (subst IsUtf8 (append_assoc front (b ∷ []) value) h.0, h.1)
string_parts front (StringAt.short {b} {c} {text} {value} {rest} e at) u =
    let low = short_low b c e in
    let h = split_ascii front 92 (b ∷ text) (omega arith) u in
    let g = string_parts [] at (past b text low.0 h.1) in
    (IsUtf8-append front (c ∷ value) h.0 (IsUtf8-append (c ∷ []) value (utf8_byte c low.1) g.0), g.1)
string_parts front (StringAt.code {c} {text} {after} {value} {rest} code at) u =
    let h = around_code front code u in
    let g = string_parts [] at h.behind in
    (IsUtf8-append front (encode_utf8 c ++ value) h.before (IsUtf8-append (encode_utf8 c) value (IsUtf8-encode c h.scalar) g.0), g.1)

iri_text_rest : (front : List ℕ) {text value rest : List ℕ} → IriTextAt text value rest → IsUtf8 (front ++ text) → IsUtf8 rest
iri_text_rest front (IriTextAt.close {rest}) u = (split_ascii front 62 rest (omega arith) u).1
iri_text_rest front (IriTextAt.plain {b} {text} e at) u = iri_text_rest (front ++ b ∷ []) at (shifted front b text u)
iri_text_rest front (IriTextAt.code code at) u = let h = around_code front code u in iri_text_rest [] at h.behind

pub past_iri : {text i rest : List ℕ} → IriAt text i rest → IsUtf8 text → IsUtf8 rest
past_iri (IriAt.iri {text} at is) u = iri_text_rest [] at (past 60 text (omega arith) u)
