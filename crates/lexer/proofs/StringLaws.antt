-- Strings: what is read is one, each is read, and what it spells is UTF-8.
use Rattle.std.proofs.Common.{◌≡◌, ℕ, suc, ◌+◌, ◌-◌, ◌≤◌, ◌<◌, Bool, true, false, cond, ◌||◌, eqb, ltb, List, [], ◌∷◌, ◌++◌, length, take, drop, get_or, Option, Some, None, unwrap_or, is_some, not, ◌≢◌, refl, sym, ap, ◌∙◌, subst, arith, length-append, inl, inr, IsUtf8, encode_utf8, encode_utf8_all}
use Rattle.std.proofs.Math.Utf8.{scalar, scalars}
use Rattle.std.specs.Str.{is_utf8, IsCharBoundary}
use Rattle.std.specs.List.{position_or_len, before_first, after_first}
use Rattle.std.specs.Char.{len_utf8}
use Rattle.std.proofs.lemmas.Bool.{eqb-true, and_parts, or_cases, ltb-true, ltb-false, or_parts}
use Rattle.std.proofs.lemmas.List.{take_at, append-nil}
use Rattle.std.proofs.lemmas.Option.{same_Some, none-some}
use Rattle.std.proofs.lemmas.Str.{IsUtf8-nil, IsUtf8-append, IsUtf8-encode, IsUtf8-from_is_utf8, is_utf8-from_IsUtf8, IsUtf8-from_ascii, encode_ascii, length-encode, inside_one, IsCharBoundary-after_ascii, IsUtf8-drop}
use Rattle.std.proofs.lemmas.Str.Ascii.{IsAscii-from_all}
use Rattle.std.proofs.lemmas.List.Elements.{All-from_recursion}
use Rattle.iris.specs.Forms.{short_escape}
use Rattle.iris.proofs.ByteLaws.{by_test}
use Rattle.lexer.specs.declared.token.Token.{Token}
use Rattle.lexer.specs.declared.token.Token.TheVariants as token
use Rattle.lexer.specs.Strings.{is_quote, ends_plain, Spells, end, plain, short, IsEscaped, end as escaped_end, plain as escaped_plain, short as escaped_short, unescaped, unescaped_after}
use Rattle.lexer.specs.Form.{IsBarred, quotes}
use Rattle.lexer.specs.Reading.{string_end, begins_with_two, quoted, quoted_at, string_at}
use Rattle.lexer.proofs.ByteLaws.{picked}

-- ---- escapes

-- an escape is of an ASCII byte, and stands for one
escape_small : (b c : ℕ) → short_escape b ≡ Some c → (b < 128) × (c < 128)
escape_small b c e =
    let P : ℕ → Type 0 = λ c. (b < 128) × (c < 128) in
    picked P b 116 9 _ c e (λ h. (omega arith, omega arith)) (λ e.
    picked P b 98 8 _ c e (λ h. (omega arith, omega arith)) (λ e.
    picked P b 110 10 _ c e (λ h. (omega arith, omega arith)) (λ e.
    picked P b 114 13 _ c e (λ h. (omega arith, omega arith)) (λ e.
    picked P b 102 12 _ c e (λ h. (omega arith, omega arith)) (λ e.
    picked P b 34 34 _ c e (λ h. (omega arith, omega arith)) (λ e.
    picked P b 39 39 _ c e (λ h. (omega arith, omega arith)) (λ e.
    picked P b 92 92 _ c e (λ h. (omega arith, omega arith)) (λ e. absurd (none-some c e)))))))))

-- ---- what is read is a string

-- after a backslash or not
abbrev SpellsFrom : ℕ → Bool → List ℕ → List ℕ → Type 0
SpellsFrom quote false written value = Spells quote written value
SpellsFrom quote true written value = Spells quote (92 ∷ written) value

record Closed (quote : ℕ) (escaped : Bool) (text rest : List ℕ) : Type 0 where
  written : List ℕ
  value : List ℕ
  cut : text ≡ written ++ quote ∷ rest
  spells : SpellsFrom quote escaped written value

closed : (quote : ℕ) (escaped : Bool) (text rest : List ℕ) → string_end quote escaped text ≡ Some rest → Closed quote escaped text rest
closed quote escaped [] rest e = absurd (none-some rest e)
closed quote true (b ∷ bs) rest e =
    elim (short_escape b) as (λ o. short_escape b ≡ o → cond (is_some o) (string_end quote false bs) None ≡ Some rest → Closed quote true (b ∷ bs) rest) [
      | None ↦ λ o e. absurd (none-some rest e)
      | Some c ↦ λ o e. let s = closed quote false bs rest e in record { written = b ∷ s.written; value = c ∷ s.value; cut = ap (λ (x : List ℕ). b ∷ x) s.cut; spells = short o s.spells }
    ] refl e
closed quote false (b ∷ bs) rest e =
    by_test (eqb b 92) (string_end quote true bs) (cond (eqb b quote) (Some bs) (cond (ends_plain quote b) None (string_end quote false bs))) (Some rest) e
    (λ h e. let s = closed quote true bs rest e in record { written = b ∷ s.written; value = s.value; cut = ap (λ (x : List ℕ). b ∷ x) s.cut; spells = subst (λ y. Spells quote (y ∷ s.written) s.value) (sym (eqb-true b 92 h)) s.spells })
    (λ h e. by_test (eqb b quote) (Some bs) (cond (ends_plain quote b) None (string_end quote false bs)) (Some rest) e
    (λ q e. record { written = []; value = []; cut = (λ i. eqb-true b quote q i ∷ same_Some bs rest e i); spells = end })
    (λ q e. by_test (ends_plain quote b) None (string_end quote false bs) (Some rest) e
    (λ p e. absurd (none-some rest e))
    (λ p e. let s = closed quote false bs rest e in record { written = b ∷ s.written; value = b ∷ s.value; cut = ap (λ (x : List ℕ). b ∷ x) s.cut; spells = plain p s.spells })))

-- a fact of both quotes
pub of_quotes : (P : ℕ → Type 0) → P 34 → P 39 → (q : ℕ) → is_quote q ≡ true → P q
of_quotes P double single q quote =
    elim (or_cases (eqb q 34) (eqb q 39) quote) [
      | inl h ↦ subst P (sym (eqb-true q 34 h)) double
      | inr h ↦ subst P (sym (eqb-true q 39 h)) single
    ]

closes : (rest : List ℕ) (quote : ℕ) → is_quote quote ≡ true → string_end quote false (quote ∷ rest) ≡ Some rest
closes rest = of_quotes (λ q. string_end q false (q ∷ rest) ≡ Some rest) refl refl

end_again : {quote : ℕ} {written value : List ℕ} (rest : List ℕ) → is_quote quote ≡ true → Spells quote written value → string_end quote false (written ++ quote ∷ rest) ≡ Some rest
end_again {quote} rest is end = closes rest quote is
end_again {quote} rest is (plain {b} {written} {value} p s) =
    let line = or_parts ((eqb b quote || eqb b 92) || eqb b 10) (eqb b 13) p in
    let feed = or_parts (eqb b quote || eqb b 92) (eqb b 10) line.0 in
    let both = or_parts (eqb b quote) (eqb b 92) feed.0 in
    rw (both.1, both.0, feed.1, line.1) (end_again rest is s)
end_again {quote} rest is (short {b} {c} {written} {value} e s) = rw e (end_again rest is s)

-- what it spells is what its escapes stand for
spells_value : {quote : ℕ} {written value : List ℕ} → Spells quote written value → IsEscaped written × (unescaped written ≡ value)
spells_value end = (escaped_end, refl)
spells_value (plain {b} {written} {value} p s) =
    let below = spells_value s in
    let line = or_parts ((eqb b _ || eqb b 92) || eqb b 10) (eqb b 13) p in
    let feed = or_parts (eqb b _ || eqb b 92) (eqb b 10) line.0 in
    let both = or_parts (eqb b _) (eqb b 92) feed.0 in
    (escaped_plain both.1 below.0, rw both.1 (ap (λ (x : List ℕ). b ∷ x) below.1))
spells_value (short {b} {c} {written} {value} e s) =
    let below = spells_value s in
    (escaped_short e below.0, rw e (ap (λ (x : List ℕ). c ∷ x) below.1))

-- ---- the bytes between the quotes, by their length

between_is : (text written rest : List ℕ) (quote : ℕ) → text ≡ written ++ quote ∷ rest → take (length text - (length rest + 1)) text ≡ written
between_is text written rest quote cut =
    let whole : length text ≡ length (written ++ quote ∷ rest) = ap length cut in
    let len : length text - (length rest + 1) ≡ length written = omega (arith, length-append written (quote ∷ rest)) in
    (λ i. take (len i) (cut i)) ∙ take_at written (quote ∷ rest) (length written) refl

pub between_escaped : (quote : ℕ) (text rest : List ℕ) → string_end quote false text ≡ Some rest → IsEscaped (take (length text - (length rest + 1)) text)
between_escaped quote text rest e =
    let s = closed quote false text rest e in
    subst IsEscaped (sym (between_is text s.written rest quote s.cut)) (spells_value s.spells).0

-- ---- a string's escapes, one after the other

abbrev first_backslash : List ℕ → ℕ
first_backslash = position_or_len (λ b. eqb b 92)

-- what stands before an escape, its letter, and what follows it
pub record EscapeFound (written before after : List ℕ) : Type 0 where
  pub letter : ℕ
  pub value : ℕ
  pub tail : List ℕ
  pub is : after ≡ letter ∷ tail
  pub stands : short_escape letter ≡ Some value
  pub later : IsEscaped tail
  pub whole : unescaped written ≡ before ++ value ∷ unescaped tail

escape_found : (written : List ℕ) → IsEscaped written → first_backslash written < length written
    → EscapeFound written (before_first (λ b. eqb b 92) written) (after_first (λ b. eqb b 92) written)
escape_found written escaped_end less = absurd (omega arith)
escape_found written (escaped_plain {b} {rest} p is) less =
    let place : first_backslash (b ∷ rest) ≡ suc (first_backslash rest) = ap (λ t. cond (not t) (1 + first_backslash rest) 0) p ∙ omega arith in
    let past : first_backslash (b ∷ rest) + 1 ≡ suc (first_backslash rest + 1) = omega (arith, place) in
    let below = escape_found rest is (omega (arith, place)) in
    subst (λ n. EscapeFound (b ∷ rest) (take n (b ∷ rest)) (drop (first_backslash (b ∷ rest) + 1) (b ∷ rest))) (sym place)
    (subst (λ k. EscapeFound (b ∷ rest) (b ∷ take (first_backslash rest) rest) (drop k (b ∷ rest))) (sym past) (record {
      letter = below.letter;
      value = below.value;
      tail = below.tail;
      is = below.is;
      stands = below.stands;
      later = below.later;
      whole = ap (λ t. cond t (unescaped_after true rest) (b ∷ unescaped rest)) p ∙ ap (λ (x : List ℕ). b ∷ x) below.whole;
    }))
escape_found written (escaped_short {b} {c} {rest} e is) less =
    record { letter = b; value = c; tail = rest; is = refl; stands = e; later = is; whole = rw e refl }

-- as the parts before and after the first backslash are
pub escape_between : (written before after : List ℕ) → IsEscaped written
    → (before ≡ before_first (λ b. eqb b 92) written) × (after ≡ after_first (λ b. eqb b 92) written) × (first_backslash written < length written)
    → EscapeFound written before after
escape_between written before after is cut =
    subst (λ x. EscapeFound written x after) (sym cut.0) (subst (λ y. EscapeFound written (before_first (λ b. eqb b 92) written) y) (sym cut.1) (escape_found written is cut.2))

backslash_at : (written : List ℕ) → first_backslash written < length written → get_or written (first_backslash written) 0 ≡ 92
backslash_at [] less = absurd (omega arith)
backslash_at (b ∷ bs) less =
    elim (eqb b 92) as (λ t. eqb b 92 ≡ t → cond (not t) (1 + first_backslash bs) 0 < suc (length bs) → get_or (b ∷ bs) (cond (not t) (1 + first_backslash bs) 0) 0 ≡ 92) [
      | true ↦ λ e less. eqb-true b 92 e
      | false ↦ λ e less. let n : 1 + first_backslash bs ≡ suc (first_backslash bs) = omega arith in ap (λ k. get_or (b ∷ bs) k 0) n ∙ backslash_at bs (omega arith)
    ] refl less

pub after_utf8 : (written after : List ℕ) → IsUtf8 written → after ≡ after_first (λ b. eqb b 92) written → first_backslash written < length written → IsUtf8 after
after_utf8 written after is e less =
    let small : get_or written (first_backslash written) 0 < 128 = let at = backslash_at written less in omega arith in
    subst IsUtf8 (sym e) (IsUtf8-drop written (first_backslash written + 1) is (IsCharBoundary-after_ascii written (first_backslash written) is less small))

pub none_left : (written : List ℕ) → first_backslash written ≡ length written → unescaped written ≡ written
none_left [] all = refl
none_left (b ∷ bs) all =
    elim (eqb b 92) as (λ t. cond (not t) (1 + first_backslash bs) 0 ≡ suc (length bs) → cond t (unescaped_after true bs) (b ∷ unescaped bs) ≡ b ∷ bs) [
      | true ↦ λ e. absurd (omega arith)
      | false ↦ λ e. ap (λ (x : List ℕ). b ∷ x) (none_left bs (omega arith))
    ] all

-- where a letter is first, it is a character by itself
pub letter_alone : {written before after : List ℕ} → EscapeFound written before after → IsUtf8 after → IsCharBoundary after 1
letter_alone found is = subst (λ x. IsUtf8 x → IsCharBoundary x 1) (sym found.is) (λ is. IsCharBoundary-after_ascii (found.letter ∷ found.tail) 0 is (omega arith) (escape_small found.letter found.value found.stands).0) is

pub tail_utf8 : {written before after : List ℕ} (y : List ℕ) → EscapeFound written before after → IsUtf8 after → y ≡ drop 1 after → IsUtf8 y
tail_utf8 {written} {before} {after} y found is e = subst IsUtf8 (sym e) (IsUtf8-drop after 1 is (letter_alone found is))

pub later_escaped : {written before after : List ℕ} (y : List ℕ) → EscapeFound written before after → y ≡ drop 1 after → IsEscaped y
later_escaped y found e = subst IsEscaped (sym (e ∙ ap (drop 1) found.is)) found.later

pub one_undone : {written before after : List ℕ} (x y : List ℕ) → EscapeFound written before after → x ≡ take 1 after → y ≡ drop 1 after
    → before ++ (unescaped_after true x ++ unescaped y) ≡ unescaped written
one_undone {written} {before} {after} x y found front back =
    (λ i. before ++ (unescaped_after true ((front ∙ ap (take 1) found.is) i) ++ unescaped ((back ∙ ap (drop 1) found.is) i)))
    ∙ ap (λ c. before ++ (unwrap_or c found.letter ∷ unescaped found.tail)) found.stands
    ∙ sym found.whole

-- a letter that is none of these stands for itself
stays_other : (c n m : ℕ) (o : Option ℕ) → (c ∷ []) ≢ (n ∷ []) → unwrap_or o c ≡ c → unwrap_or (cond (eqb c n) (Some m) o) c ≡ c
stays_other c n m o other later =
    elim (eqb c n) as (λ t. eqb c n ≡ t → unwrap_or (cond t (Some m) o) c ≡ c) [ true ↦ λ e. absurd (other (ap (λ y. y ∷ []) (eqb-true c n e))) | false ↦ λ e. later ] refl

stays_same : (c n : ℕ) (o : Option ℕ) → unwrap_or o c ≡ c → unwrap_or (cond (eqb c n) (Some n) o) c ≡ c
stays_same c n o later =
    elim (eqb c n) as (λ t. eqb c n ≡ t → unwrap_or (cond t (Some n) o) c ≡ c) [ true ↦ λ e. sym (eqb-true c n e) | false ↦ λ e. later ] refl

pub letter_stays : (x : List ℕ) → length x ≡ 1 → x ≢ 116 ∷ [] → x ≢ 98 ∷ [] → x ≢ 110 ∷ [] → x ≢ 114 ∷ [] → x ≢ 102 ∷ [] → x ≡ unescaped_after true x
letter_stays [] one t b n r f = absurd (omega arith)
letter_stays (c ∷ d ∷ x) one t b n r f = absurd (omega arith)
letter_stays (c ∷ []) one t b n r f = ap (λ y. y ∷ []) (sym (
    stays_other c 116 9 _ t (stays_other c 98 8 _ b (stays_other c 110 10 _ n (stays_other c 114 13 _ r (stays_other c 102 12 _ f
    (stays_same c 34 _ (stays_same c 39 _ (stays_same c 92 None refl)))))))))

-- ---- strings

pub record StringFound (quote : ℕ) (text : List ℕ) (t : Token) (rest : List ℕ) : Type 0 where
  pub written : List ℕ
  pub value : List ℕ
  pub cut : text ≡ written ++ quote ∷ rest
  pub spells : Spells quote written value
  pub utf8 : IsUtf8 written
  pub is : token.Text value ≡ t
  pub one : begins_with_two quote text ≡ false

pub string_found : (quote : ℕ) (text : List ℕ) (t : Token) (rest : List ℕ) → string_at quote text ≡ Some (t, rest) → StringFound quote text t rest
unfolding string_at
string_found quote text t rest e =
    by_test (begins_with_two quote text) None (quoted_at text (string_end quote false text)) (Some (t, rest)) e
    (λ h e. absurd (none-some (t, rest) e))
    (λ one e. elim (string_end quote false text) as (λ o. string_end quote false text ≡ o → quoted_at text o ≡ Some (t, rest) → StringFound quote text t rest) [
      | None ↦ λ o e. absurd (none-some (t, rest) e)
      | Some r ↦ λ o e.
          let s = closed quote false text r o in
          let w : take (length text - (length r + 1)) text ≡ s.written = between_is text s.written r quote s.cut in
          by_test (is_utf8 s.written) (Some (token.Text (unescaped s.written), r)) None (Some (t, rest)) (sym (ap (λ x. quoted x r) w) ∙ e)
          (λ utf8 e.
          let x = same_Some (token.Text (unescaped s.written), r) (t, rest) e in
          record {
            written = s.written;
            value = s.value;
            cut = s.cut ∙ ap (λ (y : Token × List ℕ). s.written ++ quote ∷ y.1) x;
            spells = s.spells;
            utf8 = IsUtf8-from_is_utf8 s.written utf8;
            is = ap token.Text (sym (spells_value s.spells).1) ∙ ap (λ (y : Token × List ℕ). y.0) x;
            one = one;
          })
          (λ utf8 e. absurd (none-some (t, rest) e))
    ] refl e)

two_barred : (quote : ℕ) (text : List ℕ) → is_quote quote ≡ true → begins_with_two quote text ≡ true → IsBarred (quote ∷ text)
two_barred quote [] is e = absurd cc
two_barred quote (b ∷ []) is e = absurd cc
two_barred quote (b ∷ c ∷ bs) is e =
    let h = and_parts (eqb b quote) (eqb c quote) e in
    subst (λ x. IsBarred (quote ∷ x)) (λ i. sym (eqb-true b quote h.0) i ∷ sym (eqb-true c quote h.1) i ∷ bs) (quotes is)

pub string_again : (quote : ℕ) (written value rest : List ℕ) → is_quote quote ≡ true → Spells quote written value → IsUtf8 written → (IsBarred (quote ∷ (written ++ quote ∷ rest)) → ⊥) → string_at quote (written ++ quote ∷ rest) ≡ Some (token.Text value, rest)
unfolding string_at
string_again quote written value rest is s utf8 free =
    let text : List ℕ = written ++ quote ∷ rest in
    let one : begins_with_two quote text ≡ false = elim (begins_with_two quote text) as (λ t. begins_with_two quote text ≡ t → t ≡ false) [ true ↦ λ e. absurd (free (two_barred quote text is e)) | false ↦ λ e. refl ] refl in
    ap (λ t. cond t None (quoted_at text (string_end quote false text))) one
    ∙ ap (quoted_at text) (end_again rest is s)
    ∙ ap (λ w. quoted w rest) (between_is text written rest quote refl)
    ∙ rw (is_utf8-from_IsUtf8 written utf8, (spells_value s).1) refl

-- ---- what a string spells is UTF-8

escaped_byte : (b : ℕ) → b < 128 → unwrap_or (short_escape b) b < 128
escaped_byte b small = elim (short_escape b) as (λ o. short_escape b ≡ o → unwrap_or o b < 128) [ None ↦ λ o. small | Some c ↦ λ o. (escape_small b c o).1 ] refl

no_escape : (b : ℕ) → (b < 128 → ⊥) → unwrap_or (short_escape b) b ≡ b
no_escape b high = elim (short_escape b) as (λ o. short_escape b ≡ o → unwrap_or o b ≡ b) [ None ↦ λ o. refl | Some c ↦ λ o. absurd (high (escape_small b c o).0) ] refl

no_backslash : (b : ℕ) → (b < 128 → ⊥) → eqb b 92 ≡ false
no_backslash b high = elim (eqb b 92) as (λ t. eqb b 92 ≡ t → t ≡ false) [ true ↦ λ e. absurd (high (let is = eqb-true b 92 e in omega arith)) | false ↦ λ e. refl ] refl

-- bytes that aren't ASCII stay
high_plain : (bs rest : List ℕ) → ((k : ℕ) → k < length bs → get_or bs k 0 < 128 → ⊥) → unescaped_after false (bs ++ rest) ≡ bs ++ unescaped_after false rest
high_plain [] rest high = refl
high_plain (b ∷ bs) rest high =
    rw (no_backslash b (λ small. high 0 (omega arith) small)) (ap (λ (x : List ℕ). b ∷ x) (high_plain bs rest (λ k within small. high (suc k) (omega arith) small)))

high_stays : (escaped : Bool) (bs rest : List ℕ) → 0 < length bs → ((k : ℕ) → k < length bs → get_or bs k 0 < 128 → ⊥) → unescaped_after escaped (bs ++ rest) ≡ bs ++ unescaped_after false rest
high_stays escaped [] rest some high = absurd (omega arith)
high_stays false (b ∷ bs) rest some high = high_plain (b ∷ bs) rest high
high_stays true (b ∷ bs) rest some high =
    rw (no_escape b (λ small. high 0 (omega arith) small)) (ap (λ (x : List ℕ). b ∷ x) (high_plain bs rest (λ k within small. high (suc k) (omega arith) small)))

ascii_utf8 : (b : ℕ) → b < 128 → IsUtf8 (b ∷ [])
ascii_utf8 b small = IsUtf8-from_ascii (b ∷ []) (IsAscii-from_all (b ∷ []) (All-from_recursion (λ b. b < 128) (b ∷ []) (small, tt)))

some_of : (t : Bool) (m n : ℕ) → 0 < m → 0 < n → 0 < cond t m n
some_of true m n first second = first
some_of false m n first second = second

encoded_some : (c : ℕ) → 0 < length (encode_utf8 c)
encoded_some c =
    let len : 0 < len_utf8 c = some_of (ltb c 128) 1 _ (omega arith) (some_of (ltb c 2048) 2 _ (omega arith) (some_of (ltb c 65536) 3 4 (omega arith) (omega arith))) in
    omega (arith, length-encode c)

encoded_high : (c : ℕ) → 128 ≤ c → (k : ℕ) → k < length (encode_utf8 c) → get_or (encode_utf8 c) k 0 < 128 → ⊥
encoded_high c high k within small = let same = inside_one c [] (encode_utf8 c) k (sym (append-nil (encode_utf8 c))) within small in omega arith

spelled_ascii : (escaped : Bool) (c : ℕ) (rest : List ℕ) → c < 128 → ((escaped : Bool) → IsUtf8 (unescaped_after escaped rest)) → IsUtf8 (unescaped_after escaped (c ∷ rest))
spelled_ascii true c rest small later = IsUtf8-append (unwrap_or (short_escape c) c ∷ []) (unescaped_after false rest) (ascii_utf8 (unwrap_or (short_escape c) c) (escaped_byte c small)) (later false)
spelled_ascii false c rest small later =
    elim (eqb c 92) as (λ t. IsUtf8 (cond t (unescaped_after true rest) (c ∷ unescaped_after false rest))) [
      | true ↦ later true
      | false ↦ IsUtf8-append (c ∷ []) (unescaped_after false rest) (ascii_utf8 c small) (later false)
    ]

spelled_utf8 : (escaped : Bool) (cs : List ℕ) → scalars cs ≡ true → IsUtf8 (unescaped_after escaped (encode_utf8_all cs))
spelled_utf8 escaped [] are = IsUtf8-nil
spelled_utf8 escaped (c ∷ cs) are =
    let h = and_parts (scalar c) (scalars cs) are in
    let rest : List ℕ = encode_utf8_all cs in
    elim (ltb c 128) as (λ t. ltb c 128 ≡ t → IsUtf8 (unescaped_after escaped (encode_utf8 c ++ rest))) [
      | true ↦ λ e.
          let small = ltb-true c 128 e in
          subst (λ x. IsUtf8 (unescaped_after escaped (x ++ rest))) (sym (encode_ascii c small)) (spelled_ascii escaped c rest small (λ escaped. spelled_utf8 escaped cs h.1))
      | false ↦ λ e.
          let high = ltb-false c 128 e in
          subst IsUtf8 (sym (high_stays escaped (encode_utf8 c) rest (encoded_some c) (encoded_high c high))) (IsUtf8-append (encode_utf8 c) (unescaped_after false rest) (IsUtf8-encode c h.0) (spelled_utf8 false cs h.1))
    ] refl

pub unescaped_utf8 : (written : List ℕ) → IsUtf8 written → IsUtf8 (unescaped written)
unescaped_utf8 written is = subst (λ x. IsUtf8 (unescaped x)) is.1.1 (spelled_utf8 false is.0 is.1.0)

pub spelled_text : (written x : List ℕ) → IsUtf8 written → x ≡ unescaped written → IsUtf8 x
spelled_text written x is e = subst IsUtf8 (sym e) (unescaped_utf8 written is)

pub spelled_is_utf8 : {quote : ℕ} {written value : List ℕ} → Spells quote written value → IsUtf8 written → IsUtf8 value
spelled_is_utf8 {quote} {written} {value} s is = subst IsUtf8 (spells_value s).1 (unescaped_utf8 written is)
