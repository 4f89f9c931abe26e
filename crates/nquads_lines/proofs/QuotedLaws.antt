-- What is read between quotes is what stands there, with its escapes undone, and what stands there
-- is read.
use Rattle.std.specs.Prelude.{ℕ, ◌+◌, ◌-◌, ◌*◌, Bool, ◌&&◌, nat_lt, length, take, drop}
use Rattle.std.proofs.Common.{zero, suc, ◌≡◌, true, false, cond, eqb, List, [], ◌∷◌, ◌++◌, Option, Some, None, refl, sym, ap, ◌∙◌, subst, arith, append_assoc, length-append, length-drop}
use Rattle.std.specs.Char.{encode_utf8, IsScalar, digit_value, is_ascii_hexdigit}
use Rattle.std.specs.Str.{all_scalars}
use Rattle.std.specs.List.{list_all}
use Rattle.std.proofs.lemmas.Bool.{eqb-true, and_parts}
use Rattle.std.proofs.lemmas.Option.{same_Some, cond_some}
use Rattle.std.proofs.lemmas.List.{append-nil, take-append-drop, length-take-le, drop_at}
use Rattle.std.proofs.lemmas.List.Folds.{list_all-append}
use Rattle.iris.specs.Iri.{is_iri_byte}
use Rattle.iris.specs.Forms.{short_escape}
use Rattle.iris.specs.Runs.{run_of, rest_of, Stops, RunsAreLongest}
use Rattle.iris.specs.Bracketed.{◌>>=◌}
use Rattle.iris.proofs.Options.{bind_some}
use Rattle.nquads_lines.specs.Escapes.{hex_value, small, large, StringAt, IriTextAt, close, plain, short, code}
use Rattle.nquads_lines.specs.Undone.{ascii_at, after, digit_at, digits_at, scalar_of, small_at, large_at, short_of, escape_at, escape_len, closing, is_open, before, quoted_from, quoted_at}
use Rattle.nquads_lines.specs.declared.escapes.Quote.{Quote}
use Rattle.nquads_lines.specs.declared.escapes.Quote.TheVariants.{String, Iri}

-- ---- steps that may fail

abbrev Read : Type 0
Read = List ℕ × List ℕ

-- ---- single bytes

pub ascii_found : (text : List ℕ) (x : ℕ × List ℕ) → ascii_at text ≡ Some x → text ≡ x.0 ∷ x.1
unfolding ascii_at
ascii_found [] x e = absurd cc
ascii_found (b ∷ bs) x e = ap (λ (y : ℕ × List ℕ). y.0 ∷ y.1) (cond_some (nat_lt b 128) (b, bs) x e).1

pub ascii_again : (b : ℕ) (rest : List ℕ) → nat_lt b 128 ≡ true → ascii_at (b ∷ rest) ≡ Some (b, rest)
unfolding ascii_at
ascii_again b rest l = rw l refl

pub after_found : (c : ℕ) (text rest : List ℕ) → after c text ≡ Some rest → text ≡ c ∷ rest
after_found c text rest e =
    let x = bind_some (ascii_at text) (λ x. cond (eqb x.0 c) (Some x.1) None) rest e in
    let g = cond_some (eqb x.0.0 c) x.0.1 rest x.2 in
    ascii_found text x.0 x.1 ∙ (λ i. eqb-true x.0.0 c g.0 i ∷ g.1 i)

-- ---- hexadecimal digits

digit_found : (v : ℕ) (text : List ℕ) (x : ℕ × List ℕ) → digit_at v text ≡ Some x → (b : ℕ) × (text ≡ b ∷ x.1) × (is_ascii_hexdigit b ≡ true) × (16 * v + digit_value b ≡ x.0)
digit_found v text x e =
    let y = bind_some (ascii_at text) (λ y. cond (is_ascii_hexdigit y.0) (Some (16 * v + digit_value y.0, y.1)) None) x e in
    let g = cond_some (is_ascii_hexdigit y.0.0) (16 * v + digit_value y.0.0, y.0.1) x y.2 in
    (y.0.0, ascii_found text y.0 y.1 ∙ ap (λ (z : ℕ × List ℕ). y.0.0 ∷ z.1) g.1, g.0, ap (λ (z : ℕ × List ℕ). z.0) g.1)

-- these digits stand in front, and spell the number
record Digits (n v : ℕ) (text : List ℕ) (x : ℕ × List ℕ) : Type 0 where
  hex : List ℕ
  cut : text ≡ hex ++ x.1
  many : length hex ≡ n
  all : list_all is_ascii_hexdigit hex ≡ true
  value : hex_value v hex ≡ x.0

digits_found : (n v : ℕ) (text : List ℕ) (x : ℕ × List ℕ) → digits_at n v text ≡ Some x → Digits n v text x
digits_found zero v text x e =
    let same : (v, text) ≡ x = same_Some (v, text) x e in
    record { hex = []; cut = ap (λ (z : ℕ × List ℕ). z.1) same; many = refl; all = refl; value = ap (λ (z : ℕ × List ℕ). z.0) same }
digits_found (suc n) v text x e =
    let y = bind_some (digit_at v text) (λ y. digits_at n y.0 y.1) x e in
    let d = digit_found v text y.0 y.1 in
    let h = digits_found n y.0.0 y.0.1 x y.2 in
    record {
      hex = d.0 ∷ h.hex;
      cut = d.1 ∙ ap (λ (t : List ℕ). d.0 ∷ t) h.cut;
      many = ap suc h.many;
      all = rw (d.2, h.all) refl;
      value = ap (λ k. hex_value k h.hex) d.3 ∙ h.value;
    }

hex_low : (b : ℕ) → is_ascii_hexdigit b ≡ true → nat_lt b 128 ≡ true
hex_low b e = grind (arith, e)

digits_again : (hex rest : List ℕ) (v : ℕ) → list_all is_ascii_hexdigit hex ≡ true → digits_at (length hex) v (hex ++ rest) ≡ Some (hex_value v hex, rest)
digits_again [] rest v all = refl
digits_again (b ∷ hex) rest v all =
    let h = and_parts (is_ascii_hexdigit b) (list_all is_ascii_hexdigit hex) all in
    rw (ascii_again b (hex ++ rest) (hex_low b h.0), h.0) (digits_again hex rest (16 * v + digit_value b) h.1)

hex_value-append : (v : ℕ) (xs ys : List ℕ) → hex_value v (xs ++ ys) ≡ hex_value (hex_value v xs) ys
hex_value-append v [] ys = refl
hex_value-append v (x ∷ xs) ys = hex_value-append (16 * v + digit_value x) xs ys

-- ---- escapes

-- what stands behind a backslash, and what it stands for
data EscapeAt (q : Quote) : List ℕ → List ℕ → List ℕ → Type 0 where
  one : {b c : ℕ} {rest : List ℕ} → short_of q b ≡ Some c → EscapeAt q (b ∷ rest) (c ∷ []) rest
  four : (hex : List ℕ) {rest : List ℕ} → length hex ≡ 4 → list_all is_ascii_hexdigit hex ≡ true → IsScalar (hex_value 0 hex) → EscapeAt q (117 ∷ (hex ++ rest)) (encode_utf8 (hex_value 0 hex)) rest
  eight : (hex : List ℕ) {rest : List ℕ} → length hex ≡ 8 → list_all is_ascii_hexdigit hex ≡ true → IsScalar (hex_value 0 hex) → EscapeAt q (85 ∷ (hex ++ rest)) (encode_utf8 (hex_value 0 hex)) rest

scalar_found : (n c : ℕ) → scalar_of n ≡ Some c → (n ≡ c) × IsScalar n
scalar_found n c e =
    let g = cond_some (all_scalars (n ∷ [])) n c e in
    (g.1, (and_parts _ (all_scalars []) g.0).0)

scalar_again : (n : ℕ) → IsScalar n → scalar_of n ≡ Some n
scalar_again n is = rw is refl

four_found : (q : Quote) (text : List ℕ) (e : Read) → small_at text ≡ Some e → EscapeAt q (117 ∷ text) e.0 e.1
four_found q text e h =
    let x = bind_some (digits_at 4 0 text) (λ x. scalar_of x.0 >>= λ c. Some (encode_utf8 c, x.1)) e h in
    let c = bind_some (scalar_of x.0.0) (λ c. Some (encode_utf8 c, x.0.1)) e x.2 in
    let s = scalar_found x.0.0 c.0 c.1 in
    let d = digits_found 4 0 text x.0 x.1 in
    let made : (encode_utf8 (hex_value 0 d.hex), x.0.1) ≡ e = ap (λ k. (encode_utf8 k, x.0.1)) (d.value ∙ s.0) ∙ same_Some (encode_utf8 c.0, x.0.1) e c.2 in
    subst (λ (t : List ℕ). EscapeAt q (117 ∷ t) e.0 e.1) (sym d.cut ∙ refl)
    (subst (λ (y : Read). EscapeAt q (117 ∷ (d.hex ++ x.0.1)) y.0 y.1) made (four d.hex d.many d.all (subst IsScalar (sym d.value) s.1)))

eight_found : (q : Quote) (text : List ℕ) (e : Read) → large_at text ≡ Some e → EscapeAt q (85 ∷ text) e.0 e.1
eight_found q text e h =
    let y = bind_some (digits_at 4 0 text) (λ y. digits_at 4 y.0 y.1 >>= λ x. scalar_of x.0 >>= λ c. Some (encode_utf8 c, x.1)) e h in
    let x = bind_some (digits_at 4 y.0.0 y.0.1) (λ x. scalar_of x.0 >>= λ c. Some (encode_utf8 c, x.1)) e y.2 in
    let c = bind_some (scalar_of x.0.0) (λ c. Some (encode_utf8 c, x.0.1)) e x.2 in
    let s = scalar_found x.0.0 c.0 c.1 in
    let a = digits_found 4 0 text y.0 y.1 in
    let b = digits_found 4 y.0.0 y.0.1 x.0 x.1 in
    let hex : List ℕ = a.hex ++ b.hex in
    let value : hex_value 0 hex ≡ x.0.0 = hex_value-append 0 a.hex b.hex ∙ ap (λ k. hex_value k b.hex) a.value ∙ b.value in
    let many : length hex ≡ 8 = length-append a.hex b.hex ∙ (λ i. a.many i + b.many i) in
    let all : list_all is_ascii_hexdigit hex ≡ true = list_all-append is_ascii_hexdigit a.hex b.hex ∙ (λ i. a.all i && b.all i) in
    let cut : text ≡ hex ++ x.0.1 = a.cut ∙ ap (λ (t : List ℕ). a.hex ++ t) b.cut ∙ sym (append_assoc a.hex b.hex x.0.1) in
    let made : (encode_utf8 (hex_value 0 hex), x.0.1) ≡ e = ap (λ k. (encode_utf8 k, x.0.1)) (value ∙ s.0) ∙ same_Some (encode_utf8 c.0, x.0.1) e c.2 in
    subst (λ (t : List ℕ). EscapeAt q (85 ∷ t) e.0 e.1) (sym cut)
    (subst (λ (y : Read). EscapeAt q (85 ∷ (hex ++ x.0.1)) y.0 y.1) made (eight hex many all (subst IsScalar (sym value) s.1)))

one_found : (q : Quote) (b : ℕ) (rest : List ℕ) (e : Read) → (short_of q b >>= λ c. Some (c ∷ [], rest)) ≡ Some e → EscapeAt q (b ∷ rest) e.0 e.1
one_found q b rest e h =
    let c = bind_some (short_of q b) (λ c. Some (c ∷ [], rest)) e h in
    subst (λ (y : Read). EscapeAt q (b ∷ rest) y.0 y.1) (same_Some (c.0 ∷ [], rest) e c.2) (one c.1)

byte_found : (q : Quote) (b : ℕ) (rest : List ℕ) (e : Read)
    → cond (eqb b 117) (small_at rest) (cond (eqb b 85) (large_at rest) (short_of q b >>= λ c. Some (c ∷ [], rest))) ≡ Some e → EscapeAt q (b ∷ rest) e.0 e.1
byte_found q b rest e =
    elim (eqb b 117) as (λ t. eqb b 117 ≡ t → cond t (small_at rest) (cond (eqb b 85) (large_at rest) (short_of q b >>= λ c. Some (c ∷ [], rest))) ≡ Some e → EscapeAt q (b ∷ rest) e.0 e.1) [
      | true ↦ λ t h. subst (λ (x : ℕ). EscapeAt q (x ∷ rest) e.0 e.1) (sym (eqb-true b 117 t)) (four_found q rest e h)
      | false ↦ λ t. elim (eqb b 85) as (λ u. eqb b 85 ≡ u → cond u (large_at rest) (short_of q b >>= λ c. Some (c ∷ [], rest)) ≡ Some e → EscapeAt q (b ∷ rest) e.0 e.1) [
        | true ↦ λ u h. subst (λ (x : ℕ). EscapeAt q (x ∷ rest) e.0 e.1) (sym (eqb-true b 85 u)) (eight_found q rest e h)
        | false ↦ λ u h. one_found q b rest e h
      ] refl
    ] refl

escape_found : (q : Quote) (text : List ℕ) (e : Read) → escape_at q text ≡ Some e → EscapeAt q text e.0 e.1
unfolding escape_at
escape_found q text e h =
    let x = bind_some (ascii_at text) (λ x. cond (eqb x.0 117) (small_at x.1) (cond (eqb x.0 85) (large_at x.1) (short_of q x.0 >>= λ c. Some (c ∷ [], x.1)))) e h in
    subst (λ (t : List ℕ). EscapeAt q t e.0 e.1) (sym (ascii_found text x.0 x.1)) (byte_found q x.0.0 x.0.1 e x.2)

-- a byte of which a test tells that it isn't this one
apart : (p : ℕ → Option ℕ) (b c k : ℕ) → p k ≡ None → p b ≡ Some c → eqb b k ≡ false
apart p b c k none some = elim (eqb b k) as (λ t. eqb b k ≡ t → t ≡ false) [ true ↦ λ e. absurd (let f : None ≡ Some c = sym none ∙ ap p (sym (eqb-true b k e)) ∙ some in cc) | false ↦ λ e. refl ] refl

short_low : (b c : ℕ) → short_escape b ≡ Some c → nat_lt b 128 ≡ true
short_low b c e = elim (nat_lt b 128) as (λ t. nat_lt b 128 ≡ t → t ≡ true) [ true ↦ λ l. refl | false ↦ λ l. absurd (let none : short_escape b ≡ None = grind (arith, l) in let f : None ≡ Some c = sym none ∙ e in cc) ] refl

short_of_low : (q : Quote) (b c : ℕ) → short_of q b ≡ Some c → nat_lt b 128 ≡ true
short_of_low String b c e = short_low b c e
short_of_low Iri b c e = absurd cc

short_of_none : (q : Quote) (k : ℕ) → short_escape k ≡ None → short_of q k ≡ None
short_of_none String k e = e
short_of_none Iri k e = refl

four_again : (hex rest : List ℕ) → length hex ≡ 4 → list_all is_ascii_hexdigit hex ≡ true → IsScalar (hex_value 0 hex) → small_at (hex ++ rest) ≡ Some (encode_utf8 (hex_value 0 hex), rest)
four_again hex rest many all is =
    let read : digits_at 4 0 (hex ++ rest) ≡ Some (hex_value 0 hex, rest) = ap (λ n. digits_at n 0 (hex ++ rest)) (sym many) ∙ digits_again hex rest 0 all in
    ap (λ (o : Option (ℕ × List ℕ)). o >>= λ x. scalar_of x.0 >>= λ c. Some (encode_utf8 c, x.1)) read
    ∙ ap (λ (o : Option ℕ). o >>= λ c. Some (encode_utf8 c, rest)) (scalar_again (hex_value 0 hex) is)

halves_again : (a b rest : List ℕ) → length a ≡ 4 → length b ≡ 4 → list_all is_ascii_hexdigit a ≡ true → list_all is_ascii_hexdigit b ≡ true → IsScalar (hex_value 0 (a ++ b))
    → large_at ((a ++ b) ++ rest) ≡ Some (encode_utf8 (hex_value 0 (a ++ b)), rest)
halves_again a b rest la lb all_a all_b is =
    let first : digits_at 4 0 ((a ++ b) ++ rest) ≡ Some (hex_value 0 a, b ++ rest) =
    ap (digits_at 4 0) (append_assoc a b rest) ∙ ap (λ n. digits_at n 0 (a ++ (b ++ rest))) (sym la) ∙ digits_again a (b ++ rest) 0 all_a in
    let second : digits_at 4 (hex_value 0 a) (b ++ rest) ≡ Some (hex_value 0 (a ++ b), rest) =
    ap (λ n. digits_at n (hex_value 0 a) (b ++ rest)) (sym lb) ∙ digits_again b rest (hex_value 0 a) all_b ∙ ap (λ k. let o : Option (ℕ × List ℕ) = Some (k, rest) in o) (sym (hex_value-append 0 a b)) in
    ap (λ (o : Option (ℕ × List ℕ)). o >>= λ h. digits_at 4 h.0 h.1 >>= λ x. scalar_of x.0 >>= λ c. Some (encode_utf8 c, x.1)) first
    ∙ ap (λ (o : Option (ℕ × List ℕ)). o >>= λ x. scalar_of x.0 >>= λ c. Some (encode_utf8 c, x.1)) second
    ∙ ap (λ (o : Option ℕ). o >>= λ c. Some (encode_utf8 c, rest)) (scalar_again (hex_value 0 (a ++ b)) is)

eight_again : (hex rest : List ℕ) → length hex ≡ 8 → list_all is_ascii_hexdigit hex ≡ true → IsScalar (hex_value 0 hex) → large_at (hex ++ rest) ≡ Some (encode_utf8 (hex_value 0 hex), rest)
eight_again hex rest many all is =
    let whole : take 4 hex ++ drop 4 hex ≡ hex = take-append-drop 4 hex in
    let parts = and_parts (list_all is_ascii_hexdigit (take 4 hex)) (list_all is_ascii_hexdigit (drop 4 hex)) (sym (list_all-append is_ascii_hexdigit (take 4 hex) (drop 4 hex)) ∙ ap (list_all is_ascii_hexdigit) whole ∙ all) in
    let la : length (take 4 hex) ≡ 4 = length-take-le 4 hex (omega arith) in
    let lb : length (drop 4 hex) ≡ 4 = let e : length (drop 4 hex) ≡ length hex - 4 = length-drop 4 hex in omega arith in
    subst (λ (h : List ℕ). large_at (h ++ rest) ≡ Some (encode_utf8 (hex_value 0 h), rest)) whole
    (halves_again (take 4 hex) (drop 4 hex) rest la lb parts.0 parts.1 (subst (λ (h : List ℕ). IsScalar (hex_value 0 h)) (sym whole) is))

escape_again : (q : Quote) {text value rest : List ℕ} → EscapeAt q text value rest → escape_at q text ≡ Some (value, rest)
unfolding escape_at
escape_again q (one {b} {c} {rest} e) =
    rw (ascii_again b rest (short_of_low q b c e), apart (short_of q) b c 117 (short_of_none q 117 refl) e, apart (short_of q) b c 85 (short_of_none q 85 refl) e, e) refl
escape_again q (four hex {rest} many all is) = rw (ascii_again 117 (hex ++ rest) refl) (four_again hex rest many all is)
escape_again q (eight hex {rest} many all is) = rw (ascii_again 85 (hex ++ rest) refl) (eight_again hex rest many all is)

escape_rest : (q : Quote) {text value rest : List ℕ} → EscapeAt q text value rest → drop (escape_len text) text ≡ rest
escape_rest q (one {b} {c} {rest} e) = rw (apart (short_of q) b c 117 (short_of_none q 117 refl) e, apart (short_of q) b c 85 (short_of_none q 85 refl) e) refl
escape_rest q (four hex {rest} many all is) = drop_at hex rest 4 many
escape_rest q (eight hex {rest} many all is) = drop_at hex rest 8 many

-- ---- what is quoted

data QuotedAt (q : Quote) : List ℕ → List ℕ → List ℕ → Type 0 where
  end : {rest : List ℕ} → QuotedAt q (closing q ∷ rest) [] rest
  raw : {b : ℕ} {text value rest : List ℕ} → is_open q b ≡ true → QuotedAt q text value rest → QuotedAt q (b ∷ text) (b ∷ value) rest
  undone : {text e next value rest : List ℕ} → EscapeAt q text e next → QuotedAt q next value rest → QuotedAt q (92 ∷ text) (e ++ value) rest

open_found : (q : Quote) (b : ℕ) (bs : List ℕ) (x : Read) → is_open q b ≡ true → ((y : Read) → quoted_from q 0 bs ≡ Some y → QuotedAt q bs y.0 y.1)
    → before (b ∷ []) (quoted_from q 0 bs) ≡ Some x → QuotedAt q (b ∷ bs) x.0 x.1
open_found q b bs x o later e =
    let y = bind_some (quoted_from q 0 bs) (λ y. Some ((b ∷ []) ++ y.0, y.1)) x e in
    subst (λ (z : Read). QuotedAt q (b ∷ bs) z.0 z.1) (same_Some ((b ∷ []) ++ y.0.0, y.0.1) x y.2) (raw o (later y.0 y.1))

undone_found : (q : Quote) (bs : List ℕ) (x : Read) → ((n : ℕ) (y : Read) → quoted_from q n bs ≡ Some y → QuotedAt q (drop n bs) y.0 y.1)
    → (escape_at q bs >>= λ e. before e.0 (quoted_from q (escape_len bs) bs)) ≡ Some x → QuotedAt q (92 ∷ bs) x.0 x.1
undone_found q bs x later h =
    let e = bind_some (escape_at q bs) (λ e. before e.0 (quoted_from q (escape_len bs) bs)) x h in
    let y = bind_some (quoted_from q (escape_len bs) bs) (λ y. Some (e.0.0 ++ y.0, y.1)) x e.2 in
    let is : EscapeAt q bs e.0.0 e.0.1 = escape_found q bs e.0 e.1 in
    subst (λ (z : Read). QuotedAt q (92 ∷ bs) z.0 z.1) (same_Some (e.0.0 ++ y.0.0, y.0.1) x y.2)
    (undone is (subst (λ (t : List ℕ). QuotedAt q t y.0.0 y.0.1) (escape_rest q is) (later (escape_len bs) y.0 y.1)))

quoted_found : (q : Quote) (n : ℕ) (text : List ℕ) (x : Read) → quoted_from q n text ≡ Some x → QuotedAt q (drop n text) x.0 x.1
unfolding quoted_from
quoted_found q n [] x e = absurd cc
quoted_found q (suc n) (b ∷ bs) x e = quoted_found q n bs x e
quoted_found q zero (b ∷ bs) x e =
    elim (is_open q b) as (λ t. is_open q b ≡ t → cond t (before (b ∷ []) (quoted_from q 0 bs)) (cond (eqb b (closing q)) (Some ([], bs)) (cond (eqb b 92) (escape_at q bs >>= λ e. before e.0 (quoted_from q (escape_len bs) bs)) None)) ≡ Some x → QuotedAt q (b ∷ bs) x.0 x.1) [
      | true ↦ λ t h. open_found q b bs x t (λ y e. quoted_found q 0 bs y e) h
      | false ↦ λ t. elim (eqb b (closing q)) as (λ u. eqb b (closing q) ≡ u → cond u (Some ([], bs)) (cond (eqb b 92) (escape_at q bs >>= λ e. before e.0 (quoted_from q (escape_len bs) bs)) None) ≡ Some x → QuotedAt q (b ∷ bs) x.0 x.1) [
        | true ↦ λ u h. subst (λ (c : ℕ). QuotedAt q (c ∷ bs) x.0 x.1) (sym (eqb-true b (closing q) u)) (subst (λ (z : Read). QuotedAt q (closing q ∷ bs) z.0 z.1) (same_Some ([], bs) x h) end)
        | false ↦ λ u. elim (eqb b 92) as (λ v. eqb b 92 ≡ v → cond v (escape_at q bs >>= λ e. before e.0 (quoted_from q (escape_len bs) bs)) None ≡ Some x → QuotedAt q (b ∷ bs) x.0 x.1) [
          | true ↦ λ v h. subst (λ (c : ℕ). QuotedAt q (c ∷ bs) x.0 x.1) (sym (eqb-true b 92 v)) (undone_found q bs x (λ n y e. quoted_found q n bs y e) h)
          | false ↦ λ v h. absurd cc
        ] refl
      ] refl
    ] refl e

skipped : (q : Quote) (n : ℕ) (bs : List ℕ) → quoted_from q n bs ≡ quoted_from q 0 (drop n bs)
unfolding quoted_from
skipped q zero bs = refl
skipped q (suc n) [] = refl
skipped q (suc n) (b ∷ bs) = skipped q n bs

past_escape : (q : Quote) (bs : List ℕ) (o : Option Read) → escape_at q bs ≡ o → (o >>= λ e. before e.0 (quoted_from q (escape_len bs) bs)) ≡ (o >>= λ e. before e.0 (quoted_from q 0 e.1))
past_escape q bs None h = refl
past_escape q bs (Some e) h = ap (before e.0) (skipped q (escape_len bs) bs ∙ ap (quoted_from q 0) (escape_rest q (escape_found q bs e h)))

-- a backslash, the byte that ends what is quoted, and a byte that stands as it is
at_backslash : (q : Quote) (bs : List ℕ) → quoted_from q 0 (92 ∷ bs) ≡ (escape_at q bs >>= λ e. before e.0 (quoted_from q 0 e.1))
unfolding quoted_from
at_backslash String bs = past_escape String bs (escape_at String bs) refl
at_backslash Iri bs = past_escape Iri bs (escape_at Iri bs) refl

at_closing : (q : Quote) (bs : List ℕ) → quoted_from q 0 (closing q ∷ bs) ≡ Some ([], bs)
unfolding quoted_from
at_closing String bs = refl
at_closing Iri bs = refl

at_open : (q : Quote) (b : ℕ) (bs : List ℕ) → is_open q b ≡ true → quoted_from q 0 (b ∷ bs) ≡ before (b ∷ []) (quoted_from q 0 bs)
unfolding quoted_from
at_open q b bs o = rw o refl

quoted_again : (q : Quote) {text value rest : List ℕ} → QuotedAt q text value rest → quoted_from q 0 text ≡ Some (value, rest)
quoted_again q (end {rest}) = at_closing q rest
quoted_again q (raw {b} {text} {value} {rest} o more) = at_open q b text o ∙ ap (before (b ∷ [])) (quoted_again q more)
quoted_again q (undone {text} {e} {next} {value} {rest} is more) =
    at_backslash q text ∙ ap (λ (o : Option Read). o >>= λ e. before e.0 (quoted_from q 0 e.1)) (escape_again q is) ∙ ap (before e) (quoted_again q more)

-- ---- as strings and IRIs are defined

string_is : {text value rest : List ℕ} → QuotedAt String text value rest → StringAt text value rest
string_is end = close
string_is (raw o more) = plain o (string_is more)
string_is (undone (one e) more) = short e (string_is more)
string_is (undone (four hex many all is) more) = code (small hex many all is) (string_is more)
string_is (undone (eight hex many all is) more) = code (large hex many all is) (string_is more)

is_string : {text value rest : List ℕ} → StringAt text value rest → QuotedAt String text value rest
is_string close = end
is_string (plain o more) = raw o (is_string more)
is_string (short e more) = undone (one e) (is_string more)
is_string (code (small hex many all is) more) = undone (four hex many all is) (is_string more)
is_string (code (large hex many all is) more) = undone (eight hex many all is) (is_string more)

iri_text_is : {text value rest : List ℕ} → QuotedAt Iri text value rest → IriTextAt text value rest
iri_text_is end = close
iri_text_is (raw o more) = plain o (iri_text_is more)
iri_text_is (undone (one e) more) = absurd cc
iri_text_is (undone (four hex many all is) more) = code (small hex many all is) (iri_text_is more)
iri_text_is (undone (eight hex many all is) more) = code (large hex many all is) (iri_text_is more)

is_iri_text : {text value rest : List ℕ} → IriTextAt text value rest → QuotedAt Iri text value rest
is_iri_text close = end
is_iri_text (plain o more) = raw o (is_iri_text more)
is_iri_text (code (small hex many all is) more) = undone (four hex many all is) (is_iri_text more)
is_iri_text (code (large hex many all is) more) = undone (eight hex many all is) (is_iri_text more)

pub string_found : (text : List ℕ) (x : Read) → quoted_at String text ≡ Some x → StringAt text x.0 x.1
string_found text x e = string_is (quoted_found String 0 text x e)

pub string_again : {text value rest : List ℕ} → StringAt text value rest → quoted_at String text ≡ Some (value, rest)
string_again is = quoted_again String (is_string is)

pub iri_text_found : (text : List ℕ) (x : Read) → quoted_at Iri text ≡ Some x → IriTextAt text x.0 x.1
iri_text_found text x e = iri_text_is (quoted_found Iri 0 text x e)

pub iri_text_again : {text value rest : List ℕ} → IriTextAt text value rest → quoted_at Iri text ≡ Some (value, rest)
iri_text_again is = quoted_again Iri (is_iri_text is)

-- ---- a run at once

before_nil : (o : Option Read) → before [] o ≡ o
before_nil None = refl
before_nil (Some x) = refl

before_both : (u v : List ℕ) (o : Option Read) → before u (before v o) ≡ before (u ++ v) o
before_both u v None = refl
before_both u v (Some x) = ap (λ (t : List ℕ). let o : Option Read = Some (t, x.1) in o) (sym (append_assoc u v x.0))

pub run_read : (q : Quote) (text : List ℕ) → quoted_from q 0 text ≡ before (run_of (is_open q) text) (quoted_from q 0 (rest_of (is_open q) text))
run_read q [] = sym (before_nil (quoted_from q 0 []))
run_read q (b ∷ bs) =
    elim (is_open q b) as (λ t. is_open q b ≡ t → quoted_from q 0 (b ∷ bs) ≡ before (cond t (b ∷ run_of (is_open q) bs) []) (quoted_from q 0 (cond t (rest_of (is_open q) bs) (b ∷ bs)))) [
      | true ↦ λ o. at_open q b bs o ∙ ap (before (b ∷ [])) (run_read q bs) ∙ before_both (b ∷ []) (run_of (is_open q) bs) (quoted_from q 0 (rest_of (is_open q) bs))
      | false ↦ λ o. sym (before_nil (quoted_from q 0 (b ∷ bs)))
    ] refl

-- an escape and the run behind it, where some of the text was read
pub one_more : (q : Quote) (text value rest t e next : List ℕ) → quoted_at q text ≡ before value (quoted_from q 0 rest) → after 92 rest ≡ Some t → escape_at q t ≡ Some (e, next)
    → quoted_at q text ≡ before ((value ++ e) ++ run_of (is_open q) next) (quoted_from q 0 (rest_of (is_open q) next))
one_more q text value rest t e next so_far back escape =
    so_far ∙ ap (before value)
    (ap (quoted_from q 0) (after_found 92 rest t back) ∙ at_backslash q t ∙ ap (λ (o : Option Read). o >>= λ e. before e.0 (quoted_from q 0 e.1)) escape ∙ ap (before e) (run_read q next)
    ∙ before_both e (run_of (is_open q) next) (quoted_from q 0 (rest_of (is_open q) next)))
    ∙ before_both value (e ++ run_of (is_open q) next) (quoted_from q 0 (rest_of (is_open q) next))
    ∙ ap (λ (v : List ℕ). before v (quoted_from q 0 (rest_of (is_open q) next))) (sym (append_assoc value e (run_of (is_open q) next)))

pub no_escape : (q : Quote) (text value rest t : List ℕ) → quoted_at q text ≡ before value (quoted_from q 0 rest) → after 92 rest ≡ Some t → escape_at q t ≡ None → quoted_at q text ≡ None
no_escape q text value rest t so_far back escape =
    so_far ∙ ap (before value) (ap (quoted_from q 0) (after_found 92 rest t back) ∙ at_backslash q t ∙ ap (λ (o : Option Read). o >>= λ e. before e.0 (quoted_from q 0 e.1)) escape)

pub closed : (q : Quote) (text value rest t : List ℕ) → quoted_at q text ≡ before value (quoted_from q 0 rest) → after (closing q) rest ≡ Some t → quoted_at q text ≡ Some (value, t)
closed q text value rest t so_far shut =
    so_far ∙ ap (before value) (ap (quoted_from q 0) (after_found (closing q) rest t shut) ∙ at_closing q t) ∙ ap (λ (v : List ℕ). let o : Option Read = Some (v, t) in o) (append-nil value)

some_is_none : {A : Type 0} {o : Option A} {x : A} → o ≡ Some x → o ≡ None → ⊥
some_is_none some none = absurd cc

closing_again : (q : Quote) (bs : List ℕ) → after (closing q) (closing q ∷ bs) ≡ Some bs
unfolding ascii_at
closing_again String bs = refl
closing_again Iri bs = refl

-- a byte behind a run that is none of the two
none_left : (q : Quote) (rest : List ℕ) → Stops (is_open q) rest → after 92 rest ≡ None → after (closing q) rest ≡ None → quoted_from q 0 rest ≡ None
unfolding quoted_from ascii_at
none_left q [] stops back shut = refl
none_left q (b ∷ bs) stops back shut =
    rw stops
    (elim (eqb b (closing q)) as (λ u. eqb b (closing q) ≡ u → cond u (Some ([], bs)) (cond (eqb b 92) (escape_at q bs >>= λ e. before e.0 (quoted_from q (escape_len bs) bs)) None) ≡ None) [
      | true ↦ λ u. absurd (let c : b ≡ closing q = eqb-true b (closing q) u in some_is_none (closing_again q bs) (ap (λ k. after (closing q) (k ∷ bs)) (sym c) ∙ shut))
      | false ↦ λ u. elim (eqb b 92) as (λ v. eqb b 92 ≡ v → cond v (escape_at q bs >>= λ e. before e.0 (quoted_from q (escape_len bs) bs)) None ≡ None) [
        | true ↦ λ v. absurd (let c : b ≡ 92 = eqb-true b 92 v in let again : after 92 (92 ∷ bs) ≡ Some bs = refl in some_is_none again (ap (λ k. after 92 (k ∷ bs)) (sym c) ∙ back))
        | false ↦ λ v. refl
      ] refl
    ] refl)

pub unclosed : (q : Quote) (text value rest : List ℕ) → quoted_at q text ≡ before value (quoted_from q 0 rest) → Stops (is_open q) rest → after 92 rest ≡ None → after (closing q) rest ≡ None → quoted_at q text ≡ None
unclosed q text value rest so_far stops back shut = so_far ∙ ap (before value) (none_left q rest stops back shut)

-- an IRI without escapes
pub plain_iri : (text t : List ℕ) → after 62 (rest_of is_iri_byte text) ≡ Some t → quoted_at Iri text ≡ Some (run_of is_iri_byte text, t)
plain_iri text t shut = closed Iri text (run_of is_iri_byte text) (rest_of is_iri_byte text) t (run_read Iri text) shut

pub run_all : RunsAreLongest → (p : ℕ → Bool) (text : List ℕ) → list_all p (run_of p text) ≡ true
run_all law p text = ((law p text (run_of p text) (rest_of p text)).0 (refl, refl)).all

pub run_stops : RunsAreLongest → (p : ℕ → Bool) (text : List ℕ) → Stops p (rest_of p text)
run_stops runs p text = ((runs p text (run_of p text) (rest_of p text)).0 (refl, refl)).stops

-- ---- as code goes on

pub begun : RunsAreLongest → (q : Quote) (text front rest value kept : List ℕ) → front ≡ run_of (is_open q) text → rest ≡ rest_of (is_open q) text → value ≡ front → kept ≡ rest
    → (quoted_at q text ≡ before value (quoted_from q 0 kept)) × Stops (is_open q) kept
begun runs q text front rest value kept f r v k =
    let run : run_of (is_open q) text ≡ value = sym (v ∙ f) in
    let left : rest_of (is_open q) text ≡ kept = sym (k ∙ r) in
    (run_read q text ∙ (λ i. before (run i) (quoted_from q 0 (left i))), subst (Stops (is_open q)) left (run_stops runs (is_open q) text))

pub gone_on : RunsAreLongest → (q : Quote) (text value rest t e next pushed run left longer kept : List ℕ) → quoted_at q text ≡ before value (quoted_from q 0 rest)
    → after 92 rest ≡ Some t → escape_at q t ≡ Some (e, next) → pushed ≡ value ++ e → run ≡ run_of (is_open q) next → left ≡ rest_of (is_open q) next → longer ≡ pushed ++ run → kept ≡ left
    → (quoted_at q text ≡ before longer (quoted_from q 0 kept)) × Stops (is_open q) kept
gone_on runs q text value rest t e next pushed run left longer kept so_far back escape p r l v k =
    let front : (value ++ e) ++ run_of (is_open q) next ≡ longer = sym (v ∙ (λ i. p i ++ r i)) in
    let stay : rest_of (is_open q) next ≡ kept = sym (k ∙ l) in
    (one_more q text value rest t e next so_far back escape ∙ (λ i. before (front i) (quoted_from q 0 (stay i))), subst (Stops (is_open q)) stay (run_stops runs (is_open q) next))
