-- What is read as a term is one, and each term is read.
use Rattle.std.specs.Prelude.{ℕ, Bool, ◌&&◌, ◌||◌, nat_eq, nat_lt, map, length}
use Rattle.std.proofs.Common.{◌≡◌, ◌≢◌, true, false, cond, eqb, List, [], ◌∷◌, ◌++◌, Option, Some, None, refl, sym, ap, ◌∙◌, subst, arith}
use Rattle.std.specs.Char.{to_ascii_lowercase}
use Rattle.std.specs.Option.{option_map_or}
use Rattle.std.specs.List.{list_all}
use Rattle.std.specs.Str.{is_utf8}
use Rattle.std.specs.Cmp.Lexicographic.{pointwise, same_text, other_text}
use Rattle.std.proofs.lemmas.Bool.{eqb-true, and_parts, or_cases}
use Rattle.std.proofs.lemmas.Option.{same_Some, cond_some}
use Rattle.std.proofs.lemmas.Str.{IsUtf8-from_is_utf8, is_utf8-from_IsUtf8}
use Rattle.std.proofs.Math.Logic.{⊎_elim}
use Rattle.iris.specs.Iri.{is_iri, IsIri, is_digit}
use Rattle.iris.specs.Runs.{run_of, rest_of, Stops, IsRun, RunsAreLongest}
use Rattle.iris.specs.Forms.{is_tag, is_label, is_label_byte, InTag, start, first, dash, later, is_tag_from, is_small_letter}
use Rattle.iris.specs.Bracketed.{◌>>=◌, iri_of}
use Rattle.iris.proofs.Options.{bind_some}
use Rattle.terms.specs.Vocabulary.{xsd_string, lang_string}
use Rattle.terms.specs.declared.term.Term.{Term}
use Rattle.terms.specs.declared.term.Term.TheVariants as term
use Rattle.nquads_lines.specs.Escapes.{StringAt, IriTextAt, IriAt, iri}
use Rattle.nquads_lines.specs.Forms.{is_tag_byte, BlankAt, blank, literal, begins_suffix, LiteralAt, simple, typed, tagged, SubjectAt, iri, ObjectAt, subject, value}
use Rattle.nquads_lines.specs.Undone.{ascii_at, after, quoted_at, iri_at}
use Rattle.nquads_lines.specs.ReadTerms as read
use Rattle.nquads_lines.specs.ReadTerms.{label_of, blank_at, with_tag, with_type, suffix_at, literal_at, begins_with, subject_at, object_at}
use Rattle.nquads_lines.specs.declared.escapes.Quote.TheVariants.{String, Iri}
use Rattle.nquads_lines.proofs.QuotedLaws.{after_found, string_found, string_again, iri_text_found, iri_text_again}

abbrev Read : Type 0
Read = Term × List ℕ

-- ---- IRIs

iri_is : (text i : List ℕ) → iri_of text ≡ Some i → (text ≡ i) × IsIri i
unfolding iri_of
iri_is text i e =
    let g = cond_some (is_utf8 text && is_iri text) text i e in
    let h = and_parts (is_utf8 text) (is_iri text) g.0 in
    (g.1, subst IsIri g.1 (record { utf8 = IsUtf8-from_is_utf8 text h.0; form = h.1 }))

iri_made : (i : List ℕ) → IsIri i → iri_of i ≡ Some i
unfolding iri_of
iri_made i is = rw (is_utf8-from_IsUtf8 i is.utf8, is.form) refl

pub iri_found : (text : List ℕ) (x : List ℕ × List ℕ) → iri_at text ≡ Some x → IriAt text x.0 x.1
unfolding iri_at
iri_found text x e =
    let t = bind_some (after 60 text) (λ t. quoted_at Iri t >>= λ q. iri_of q.0 >>= λ i. Some (i, q.1)) x e in
    let q = bind_some (quoted_at Iri t.0) (λ q. iri_of q.0 >>= λ i. Some (i, q.1)) x t.2 in
    let i = bind_some (iri_of q.0.0) (λ i. Some (i, q.0.1)) x q.2 in
    let is = iri_is q.0.0 i.0 i.1 in
    subst (λ (s : List ℕ). IriAt s x.0 x.1) (sym (after_found 60 text t.0 t.1))
    (subst (λ (y : List ℕ × List ℕ). IriAt (60 ∷ t.0) y.0 y.1) (same_Some (i.0, q.0.1) x i.2)
    (iri (subst (λ (v : List ℕ). IriTextAt t.0 v q.0.1) is.0 (iri_text_found t.0 q.0 q.1)) is.1))

after_iri : (t : List ℕ) → after 60 (60 ∷ t) ≡ Some t
unfolding ascii_at
after_iri t = refl

pub iri_again : {text i rest : List ℕ} → IriAt text i rest → iri_at text ≡ Some (i, rest)
unfolding iri_at
iri_again (iri {text} {i} {rest} at is) = rw (after_iri text, iri_text_again at, iri_made i is) refl

-- ---- blank labels

after_mark : (t : List ℕ) → (after 95 (95 ∷ t) ≡ Some t) × (after 58 (58 ∷ t) ≡ Some t)
unfolding ascii_at
after_mark t = (refl, refl)

label_all : (label : List ℕ) → is_label label ≡ true → list_all is_label_byte label ≡ true
label_all label e = (and_parts (nat_lt 0 (length label)) (list_all is_label_byte label) e).1

lower_tag : (b : ℕ) → is_small_letter (to_ascii_lowercase b) ≡ true → is_tag_byte b ≡ true
lower_tag b e = grind (arith, e)

lower_digit : (b : ℕ) → is_digit (to_ascii_lowercase b) ≡ true → is_tag_byte b ≡ true
lower_digit b e = grind (arith, e)

lower_dash : (b : ℕ) → eqb (to_ascii_lowercase b) 45 ≡ true → is_tag_byte b ≡ true
lower_dash b e = grind (arith, e)

tag_bytes : (at : InTag) (tag : List ℕ) → is_tag_from at (map to_ascii_lowercase tag) ≡ true → list_all is_tag_byte tag ≡ true
tag_bytes at [] e = refl
tag_bytes start (b ∷ bs) e =
    let h = and_parts (is_small_letter (to_ascii_lowercase b)) (is_tag_from first (map to_ascii_lowercase bs)) e in
    rw (lower_tag b h.0) (tag_bytes first bs h.1)
tag_bytes first (b ∷ bs) e =
    ⊎_elim (λ l. let h = and_parts (is_small_letter (to_ascii_lowercase b)) (is_tag_from first (map to_ascii_lowercase bs)) l in rw (lower_tag b h.0) (tag_bytes first bs h.1))
    (λ d. let h = and_parts (eqb (to_ascii_lowercase b) 45) (is_tag_from dash (map to_ascii_lowercase bs)) d in rw (lower_dash b h.0) (tag_bytes dash bs h.1))
    (or_cases (is_small_letter (to_ascii_lowercase b) && is_tag_from first (map to_ascii_lowercase bs)) (eqb (to_ascii_lowercase b) 45 && is_tag_from dash (map to_ascii_lowercase bs)) e)
tag_bytes dash (b ∷ bs) e =
    let h = and_parts (is_small_letter (to_ascii_lowercase b) || is_digit (to_ascii_lowercase b)) (is_tag_from later (map to_ascii_lowercase bs)) e in
    rw (⊎_elim (lower_tag b) (lower_digit b) (or_cases (is_small_letter (to_ascii_lowercase b)) (is_digit (to_ascii_lowercase b)) h.0)) (tag_bytes later bs h.1)
tag_bytes later (b ∷ bs) e =
    ⊎_elim (λ l. let h = and_parts (is_small_letter (to_ascii_lowercase b) || is_digit (to_ascii_lowercase b)) (is_tag_from later (map to_ascii_lowercase bs)) l in
    rw (⊎_elim (lower_tag b) (lower_digit b) (or_cases (is_small_letter (to_ascii_lowercase b)) (is_digit (to_ascii_lowercase b)) h.0)) (tag_bytes later bs h.1))
    (λ d. let h = and_parts (eqb (to_ascii_lowercase b) 45) (is_tag_from dash (map to_ascii_lowercase bs)) d in rw (lower_dash b h.0) (tag_bytes dash bs h.1))
    (or_cases ((is_small_letter (to_ascii_lowercase b) || is_digit (to_ascii_lowercase b)) && is_tag_from later (map to_ascii_lowercase bs)) (eqb (to_ascii_lowercase b) 45 && is_tag_from dash (map to_ascii_lowercase bs)) e)

-- ---- where a literal's suffix begins

after_at : (t : List ℕ) → after 64 (64 ∷ t) ≡ Some t
unfolding ascii_at
after_at t = refl

after_hat : (t : List ℕ) → (after 64 (94 ∷ t) ≡ None) × (after 94 (94 ∷ t) ≡ Some t)
unfolding ascii_at
after_hat t = (refl, refl)

after_quote : (t : List ℕ) → after 34 (34 ∷ t) ≡ Some t
unfolding ascii_at
after_quote t = refl

or_no_left : (a b : Bool) → (a || b) ≡ false → a ≡ false
or_no_left true b e = absurd cc
or_no_left false b e = refl

or_no_right : (a b : Bool) → (a || b) ≡ false → b ≡ false
or_no_right true b e = absurd cc
or_no_right false b e = e

abbrev after_of : ℕ → Option (ℕ × List ℕ) → Option (List ℕ)
after_of c o = o >>= λ x. cond (eqb x.0 c) (Some x.1) None

not_after : (c b : ℕ) (bs : List ℕ) → eqb b c ≡ false → after c (b ∷ bs) ≡ None
unfolding ascii_at
not_after c b bs e = elim (nat_lt b 128) as (λ l. after_of c (cond l (Some (b, bs)) None) ≡ None) [ true ↦ rw e refl | false ↦ refl ]

other : (c b : ℕ) (bs : List ℕ) → after c (b ∷ bs) ≡ None → nat_lt c 128 ≡ true → eqb b c ≡ false
unfolding ascii_at
other c b bs none low = elim (eqb b c) as (λ t. eqb b c ≡ t → t ≡ false) [
  | true ↦ λ e. absurd (
      let same : b ≡ c = eqb-true b c e in
      let lb : nat_lt b 128 ≡ true = ap (λ k. nat_lt k 128) same ∙ low in
      let found : after c (b ∷ bs) ≡ Some bs = rw (lb, e) refl in
      let f : None ≡ Some bs = sym none ∙ found in cc)
  | false ↦ λ e. refl
] refl

no_suffix : (rest : List ℕ) → Stops begins_suffix rest → (after 64 rest ≡ None) × (after 94 rest ≡ None)
unfolding ascii_at
no_suffix [] stop = (refl, refl)
no_suffix (b ∷ bs) stop = (not_after 64 b bs (or_no_left (eqb b 64) (eqb b 94) stop), not_after 94 b bs (or_no_right (eqb b 64) (eqb b 94) stop))

after_none : (rest : List ℕ) → after 64 rest ≡ None → after 94 rest ≡ None → Stops begins_suffix rest
unfolding ascii_at
after_none [] a h = tt
after_none (b ∷ bs) a h = rw (other 64 b bs a refl, other 94 b bs h refl) refl

-- ---- literals

cond_none : (b : Bool) (x y : Term) → cond b None (Some x) ≡ Some y → (b ≡ false) × (x ≡ y)
cond_none true x y e = absurd cc
cond_none false x y e = (refl, same_Some x y e)

tag_found : (l text : List ℕ) (x : Read) → with_tag l text ≡ Some x → (whole : List ℕ) → StringAt whole l (64 ∷ text) → RunsAreLongest → LiteralAt (34 ∷ whole) x.0 x.1
tag_found l text x e whole string runs =
    let run : List ℕ = run_of is_tag_byte text in
    let rest : List ℕ = rest_of is_tag_byte text in
    let lower : List ℕ = map to_ascii_lowercase run in
    let y = bind_some (read.tagged l lower) (λ y. Some (y, rest)) x e in
    let g = cond_some (is_tag lower) (literal l lang_string (Some lower)) y.0 y.1 in
    let is : IsRun is_tag_byte text run rest = (runs is_tag_byte text run rest).0 (refl, refl) in
    subst (λ (z : Read). LiteralAt (34 ∷ whole) z.0 z.1) (ap (λ (t : Term). (t, rest)) g.1 ∙ same_Some (y.0, rest) x y.2)
    (tagged run (subst (λ (t : List ℕ). StringAt whole l (64 ∷ t)) is.cut string) g.0 is.stops)

type_found : (l text : List ℕ) (x : Read) → with_type l text ≡ Some x → (whole : List ℕ) → StringAt whole l (94 ∷ text) → LiteralAt (34 ∷ whole) x.0 x.1
type_found l text x e whole string =
    let t = bind_some (after 94 text) (λ t. iri_at t >>= λ d. read.typed l d.0 >>= λ y. Some (y, d.1)) x e in
    let d = bind_some (iri_at t.0) (λ d. read.typed l d.0 >>= λ y. Some (y, d.1)) x t.2 in
    let y = bind_some (read.typed l d.0.0) (λ y. Some (y, d.0.1)) x d.2 in
    let g = cond_none (pointwise nat_eq d.0.0 lang_string) (literal l d.0.0 None) y.0 y.1 in
    subst (λ (z : Read). LiteralAt (34 ∷ whole) z.0 z.1) (ap (λ (t : Term). (t, d.0.1)) g.1 ∙ same_Some (y.0, d.0.1) x y.2)
    (typed (subst (λ (s : List ℕ). StringAt whole l (94 ∷ s)) (after_found 94 text t.0 t.1) string) (iri_found t.0 d.0 d.1) (other_text d.0.0 lang_string (sym g.0)))

suffix_found : (l text : List ℕ) (x : Read) → suffix_at l text ≡ Some x → (whole : List ℕ) → StringAt whole l text → RunsAreLongest → LiteralAt (34 ∷ whole) x.0 x.1
unfolding suffix_at
suffix_found l text x e whole string runs =
    elim (after 64 text) as (λ o. after 64 text ≡ o → option_map_or (with_tag l) o (option_map_or (with_type l) (after 94 text) (Some (literal l xsd_string None, text))) ≡ Some x → LiteralAt (34 ∷ whole) x.0 x.1) [
      | Some t ↦ λ a h. tag_found l t x h whole (subst (λ (s : List ℕ). StringAt whole l s) (after_found 64 text t a) string) runs
      | None ↦ λ a. elim (after 94 text) as (λ o. after 94 text ≡ o → option_map_or (with_type l) o (Some (literal l xsd_string None, text)) ≡ Some x → LiteralAt (34 ∷ whole) x.0 x.1) [
        | Some t ↦ λ b h. type_found l t x h whole (subst (λ (s : List ℕ). StringAt whole l s) (after_found 94 text t b) string)
        | None ↦ λ b h. subst (λ (z : Read). LiteralAt (34 ∷ whole) z.0 z.1) (same_Some (literal l xsd_string None, text) x h) (simple string (after_none text a b))
      ] refl
    ] refl e

literal_found : (text : List ℕ) (x : Read) → literal_at text ≡ Some x → RunsAreLongest → LiteralAt text x.0 x.1
unfolding literal_at
literal_found text x e runs =
    let t = bind_some (after 34 text) (λ t. quoted_at String t >>= λ s. suffix_at s.0 s.1) x e in
    let s = bind_some (quoted_at String t.0) (λ s. suffix_at s.0 s.1) x t.2 in
    subst (λ (w : List ℕ). LiteralAt w x.0 x.1) (sym (after_found 34 text t.0 t.1)) (suffix_found s.0.0 s.0.1 x s.2 t.0 (string_found t.0 s.0 s.1) runs)

run_both : RunsAreLongest → (p : ℕ → Bool) (front rest : List ℕ) → list_all p front ≡ true → Stops p rest → (run_of p (front ++ rest) ≡ front) × (rest_of p (front ++ rest) ≡ rest)
run_both runs p front rest all stops = (runs p (front ++ rest) front rest).1 (record { cut = refl; all = all; stops = stops })

other_type : (d : List ℕ) → d ≢ lang_string → pointwise nat_eq d lang_string ≡ false
other_type d not_same = elim (pointwise nat_eq d lang_string) as (λ b. pointwise nat_eq d lang_string ≡ b → b ≡ false) [ true ↦ λ e. absurd (not_same (same_text d lang_string (sym e))) | false ↦ λ e. refl ] refl

with_tag_again : RunsAreLongest → (l tag rest : List ℕ) → is_tag (map to_ascii_lowercase tag) ≡ true → Stops is_tag_byte rest
    → with_tag l (tag ++ rest) ≡ Some (literal l lang_string (Some (map to_ascii_lowercase tag)), rest)
with_tag_again runs l tag rest is stops = let b = run_both runs is_tag_byte tag rest (tag_bytes start tag is) stops in rw (b.0, b.1, is) refl

literal_again : RunsAreLongest → {text rest : List ℕ} {x : Term} → LiteralAt text x rest → literal_at text ≡ Some (x, rest)
unfolding literal_at suffix_at
literal_again runs (simple {text} {l} {rest} string stops) = let n = no_suffix rest stops in rw (after_quote text, string_again string, n.0, n.1) refl
literal_again runs (typed {text} {l} {after = after_hats} {d} {rest} string at not_lang) =
    rw (after_quote text, string_again string, (after_hat (94 ∷ after_hats)).0, (after_hat (94 ∷ after_hats)).1, (after_hat after_hats).1, iri_again at, other_type d not_lang) refl
literal_again runs (tagged tag {text} {l} {rest} string is stops) =
    rw (after_quote text, string_again string, after_at (tag ++ rest)) (with_tag_again runs l tag rest is stops)

-- ---- subjects and objects

blank_found : (text : List ℕ) (x : List ℕ × List ℕ) → blank_at text ≡ Some x → RunsAreLongest → BlankAt text x.0 x.1
unfolding blank_at
blank_found text x e runs =
    let t = bind_some (after 95 text) (λ t. after 58 t >>= λ t. label_of (run_of is_label_byte t) >>= λ label. Some (label, rest_of is_label_byte t)) x e in
    let u = bind_some (after 58 t.0) (λ t. label_of (run_of is_label_byte t) >>= λ label. Some (label, rest_of is_label_byte t)) x t.2 in
    let l = bind_some (label_of (run_of is_label_byte u.0)) (λ label. Some (label, rest_of is_label_byte u.0)) x u.2 in
    let run : List ℕ = run_of is_label_byte u.0 in
    let rest : List ℕ = rest_of is_label_byte u.0 in
    let g = cond_some (is_label run) run l.0 l.1 in
    let is : IsRun is_label_byte u.0 run rest = (runs is_label_byte u.0 run rest).0 (refl, refl) in
    let whole : text ≡ 95 ∷ 58 ∷ (run ++ rest) = after_found 95 text t.0 t.1 ∙ ap (λ (t : List ℕ). 95 ∷ t) (after_found 58 t.0 u.0 u.1 ∙ ap (λ (t : List ℕ). 58 ∷ t) is.cut) in
    subst (λ (w : List ℕ). BlankAt w x.0 x.1) (sym whole)
    (subst (λ (z : List ℕ × List ℕ). BlankAt (95 ∷ 58 ∷ (run ++ rest)) z.0 z.1) (ap (λ (t : List ℕ). (t, rest)) g.1 ∙ same_Some (l.0, rest) x l.2) (blank g.0 is.stops))

blank_again : RunsAreLongest → {text label rest : List ℕ} → BlankAt text label rest → blank_at text ≡ Some (label, rest)
unfolding blank_at
blank_again runs (blank {label} {rest} is stops) =
    let b = run_both runs is_label_byte label rest (label_all label is) stops in
    rw ((after_mark (58 ∷ (label ++ rest))).0, (after_mark (label ++ rest)).1, b.0, b.1, is) refl

pub subject_found : RunsAreLongest → (text : List ℕ) (x : Read) → subject_at text ≡ Some x → SubjectAt text x.0 x.1
unfolding subject_at
subject_found runs text x e =
    elim (begins_with 60 text) as (λ b. cond b (iri_at text >>= λ i. Some (term.Iri i.0, i.1)) (blank_at text >>= λ b. Some (term.Blank b.0, b.1)) ≡ Some x → SubjectAt text x.0 x.1) [
      | true ↦ λ h. let i = bind_some (iri_at text) (λ i. Some (term.Iri i.0, i.1)) x h in
          subst (λ (z : Read). SubjectAt text z.0 z.1) (same_Some (term.Iri i.0.0, i.0.1) x i.2) (iri (iri_found text i.0 i.1))
      | false ↦ λ h. let b = bind_some (blank_at text) (λ b. Some (term.Blank b.0, b.1)) x h in
          subst (λ (z : Read). SubjectAt text z.0 z.1) (same_Some (term.Blank b.0.0, b.0.1) x b.2) (blank (blank_found text b.0 b.1 runs))
    ] e

pub begins_iri : {text i rest : List ℕ} → IriAt text i rest → begins_with 60 text ≡ true
begins_iri (iri at is) = refl

begins_blank : {text b rest : List ℕ} → BlankAt text b rest → begins_with 60 text ≡ false
begins_blank (blank is stops) = refl

pub subject_again : RunsAreLongest → {text rest : List ℕ} {x : Term} → SubjectAt text x rest → subject_at text ≡ Some (x, rest)
unfolding subject_at
subject_again runs (iri at) = rw (begins_iri at, iri_again at) refl
subject_again runs (blank at) = rw (begins_blank at, blank_again runs at) refl

pub object_found : RunsAreLongest → (text : List ℕ) (x : Read) → object_at text ≡ Some x → ObjectAt text x.0 x.1
unfolding object_at
object_found runs text x e =
    elim (begins_with 34 text) as (λ b. cond b (literal_at text) (subject_at text) ≡ Some x → ObjectAt text x.0 x.1) [
      | true ↦ λ h. value (literal_found text x h runs)
      | false ↦ λ h. subject (subject_found runs text x h)
    ] e

begins_literal : {text rest : List ℕ} {x : Term} → LiteralAt text x rest → begins_with 34 text ≡ true
begins_literal (simple string stops) = refl
begins_literal (typed string at not_lang) = refl
begins_literal (tagged tag string is stops) = refl

iri_no_literal : {text i rest : List ℕ} → IriAt text i rest → begins_with 34 text ≡ false
iri_no_literal (iri at is) = refl

blank_no_literal : {text b rest : List ℕ} → BlankAt text b rest → begins_with 34 text ≡ false
blank_no_literal (blank is stops) = refl

no_literal : {text rest : List ℕ} {x : Term} → SubjectAt text x rest → begins_with 34 text ≡ false
no_literal (iri at) = iri_no_literal at
no_literal (blank at) = blank_no_literal at

pub object_again : RunsAreLongest → {text rest : List ℕ} {x : Term} → ObjectAt text x rest → object_at text ≡ Some (x, rest)
unfolding object_at
object_again runs (subject at) = rw (no_literal at) (subject_again runs at)
object_again runs (value at) = rw (begins_literal at) (literal_again runs at)
