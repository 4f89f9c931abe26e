-- Where a text may be cut, and what a test of its front tells.
use Rattle.std.specs.Prelude.{ℕ, ◌<◌, ◌≤◌, ◌+◌, Bool, IsUtf8, length, drop, nat_eq}
use Rattle.std.proofs.Common.{zero, suc, ◌≡◌, true, false, List, [], ◌∷◌, ◌++◌, sym, ap, ◌∙◌, subst, arith, get_or, take, length-append}
use Rattle.std.specs.Str.{IsCharBoundary}
use Rattle.std.specs.Char.{encode_utf8}
use Rattle.std.specs.List.{prefix_len, starts_with}
use Rattle.std.proofs.lemmas.List.{take-append-drop}
use Rattle.std.specs.Cmp.Lexicographic.{same_text}
use Rattle.std.proofs.lemmas.List.Sums.{prefix_len-le-length, prefix_len_passes, prefix_len_stops}
use Rattle.std.proofs.lemmas.Str.{IsCharBoundary-after_ascii, IsCharBoundary-before_ascii, IsCharBoundary-start, IsCharBoundary-end, encode_ascii}
use Rattle.iris.specs.Iri.{is_iri_byte}
use Rattle.iris.specs.Forms.{is_label_byte}
use Rattle.nquads_lines.specs.Escapes.{is_plain}
use Rattle.nquads_lines.specs.Forms.{is_tag_byte}
use Rattle.nquads_lines.specs.Line.{is_blank, graph_mark}
use Rattle.nquads_lines.specs.Undone.{is_open}
use Rattle.nquads_lines.specs.declared.escapes.Quote.{Quote}
use Rattle.nquads_lines.specs.declared.escapes.Quote.TheVariants.{String, Iri}

-- the first byte is in ASCII
pub first_cut : (text : List ℕ) → IsUtf8 text → 0 < length text → get_or text 0 0 < 128 → IsCharBoundary text 1
first_cut text u l a = IsCharBoundary-after_ascii text 0 u l a

-- what follows a run that ends before a byte in ASCII
cut_before : (p : ℕ → Bool) → ((b : ℕ) → p b ≡ false → b < 128) → (text : List ℕ) (n : ℕ) → n ≡ prefix_len p text → IsCharBoundary text n
cut_before p stops text n e = (
  rw e (prefix_len-le-length p text),
  λ l high. let low : get_or text n 0 < 128 = stops (get_or text n 0) (rw e (prefix_len_stops p text 0 (subst (λ k. k < length text) e l))) in absurd (omega arith),
)

-- a run of bytes in ASCII
cut_after : (p : ℕ → Bool) → ((b : ℕ) → p b ≡ true → b < 128) → (text : List ℕ) → IsUtf8 text → (n : ℕ) → n ≡ prefix_len p text → IsCharBoundary text n
cut_after p low text u zero e = IsCharBoundary-start text u
cut_after p low text u (suc n) e =
    let most : prefix_len p text ≤ length text = prefix_len-le-length p text in
    let inside : n < prefix_len p text = rw (sym e) (omega arith) in
    let within : n < length text = omega arith in
    subst (IsCharBoundary text) (let one : n + 1 ≡ suc n = omega arith in one) (IsCharBoundary-after_ascii text n u within (low (get_or text n 0) (prefix_len_passes p text n 0 inside)))

-- ---- which bytes those are

plain_stops : (b : ℕ) → is_plain b ≡ false → b < 128
plain_stops b e = grind (arith, e)

iri_stops : (b : ℕ) → is_iri_byte b ≡ false → b < 128
iri_stops b e = grind (arith, e)

open_stops : (q : Quote) (b : ℕ) → is_open q b ≡ false → b < 128
open_stops String = plain_stops
open_stops Iri = iri_stops

label_low : (b : ℕ) → is_label_byte b ≡ true → b < 128
label_low b e = grind (arith, e)

tag_low : (b : ℕ) → is_tag_byte b ≡ true → b < 128
tag_low b e = grind (arith, e)

blank_low : (b : ℕ) → is_blank b ≡ true → b < 128
blank_low b e = grind (arith, e)

pub open_cut : (q : Quote) (text : List ℕ) (n : ℕ) → n ≡ prefix_len (is_open q) text → IsCharBoundary text n
open_cut q = cut_before (is_open q) (open_stops q)

pub label_cut : (text : List ℕ) → IsUtf8 text → (n : ℕ) → n ≡ prefix_len is_label_byte text → IsCharBoundary text n
label_cut = cut_after is_label_byte label_low

pub tag_cut : (text : List ℕ) → IsUtf8 text → (n : ℕ) → n ≡ prefix_len is_tag_byte text → IsCharBoundary text n
tag_cut = cut_after is_tag_byte tag_low

pub blank_cut : (text : List ℕ) → IsUtf8 text → (n : ℕ) → n ≡ prefix_len is_blank text → IsCharBoundary text n
blank_cut = cut_after is_blank blank_low

pub encode_small : (c : ℕ) → c < 128 → encode_utf8 c ≡ c ∷ []
encode_small c l = encode_ascii c l

-- a line that begins with the mark of a graph line
pub marked : (line : List ℕ) → starts_with nat_eq line graph_mark ≡ true → line ≡ graph_mark ++ drop (length graph_mark) line
marked line e = sym (take-append-drop (length graph_mark) line) ∙ ap (λ (t : List ℕ). t ++ drop (length graph_mark) line) (sym (same_text graph_mark (take (length graph_mark) line) (sym e)))

mark_then : (rest : List ℕ) → IsUtf8 (graph_mark ++ rest) → IsCharBoundary (graph_mark ++ rest) 8
mark_then rest u = IsCharBoundary-after_ascii (graph_mark ++ rest) 7 u (let more : length (graph_mark ++ rest) ≡ 8 + length rest = length-append graph_mark rest in omega arith) (omega arith)

pub mark_cut : (line : List ℕ) → IsUtf8 line → starts_with nat_eq line graph_mark ≡ true → IsCharBoundary line 8
mark_cut line u e = subst (λ t. IsCharBoundary t 8) (sym (marked line e)) (mark_then (drop (length graph_mark) line) (subst IsUtf8 (marked line e) u))
