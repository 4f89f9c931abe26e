-- The text of a term stands for that term, with a made node by its label.
use Rattle.std.specs.Prelude.{ℕ, ◌≢◌, ◌↔◌, map, nat_eq, nat_lt, IsSome}
use Rattle.std.proofs.Common.{◌≡◌, true, false, cond, List, [], ◌∷◌, ◌++◌, length, Option, Some, None, refl, sym, ap, ◌∙◌, subst, append_assoc, arith}
use Rattle.std.specs.List.{list_all, flat_map}
use Rattle.std.specs.Option.{ForSome}
use Rattle.std.specs.Char.{to_ascii_lowercase}
use Rattle.std.specs.Fmt.{decimal}
use Rattle.std.specs.Cmp.Lexicographic.{pointwise, same_text}
use Rattle.std.proofs.lemmas.Bool.{and_parts, and_from, false≢true}
use Rattle.std.proofs.lemmas.Bool.Decides.{nat_tests}
use Rattle.sets.proofs.Filters.{each_joined, each_weaker}
use Rattle.iris.specs.Iri.{is_iri_byte, is_digit, IsIri}
use Rattle.iris.specs.Forms.{is_tag, is_label_byte, is_label}
use Rattle.iris.proofs.ByteLaws.{iri_bytes}
use Rattle.terms.specs.Literal.{LiteralValue, IsLiteral}
use Rattle.terms.specs.Vocabulary.{xsd_string, lang_string}
use Rattle.terms.specs.declared.term.Term.{Term}
use Rattle.terms.specs.declared.term.Term.TheVariants.{Iri, Literal, Blank, Made}
use Rattle.terms.specs.Canonical.{escape, iri_text, suffix, literal_text, made_label, term_text}
use Rattle.nquads_lines.specs.Escapes.{StringAt, IriTextAt, IriAt}
use Rattle.nquads_lines.specs.Forms.{BlankAt, LiteralAt, SubjectAt, ObjectAt, literal}
use Rattle.nquads_laws.specs.WellFormed.{IsTerm, IsSubject}
use Rattle.nquads_laws.specs.Named.{named_term}
use Rattle.nquads_laws.proofs.Bytes.{tag_bytes, lower_same, is_low_byte, inner_label, inner_low, decimal_digits, digit_label, is_ascii_inner}
use Rattle.nquads_laws.proofs.Pieces.{IsPiece, piece_append, piece_ascii, piece_escaped, piece_iri, by_escape}

-- ---- IRIs

pub bracketed : (i rest : List ℕ) → iri_text i ++ rest ≡ 60 ∷ (i ++ 62 ∷ rest)
bracketed i rest = ap (λ (text : List ℕ). 60 ∷ text) (append_assoc i (62 ∷ []) rest)

iri_text_at : (i rest : List ℕ) → list_all is_iri_byte i ≡ true → IriTextAt (i ++ 62 ∷ rest) i rest
iri_text_at [] rest e = IriTextAt.close
iri_text_at (b ∷ i) rest e = let h = and_parts (is_iri_byte b) (list_all is_iri_byte i) e in IriTextAt.plain (h.0) (iri_text_at i rest h.1)

pub iri_front : (i rest : List ℕ) → IsIri i → IriAt (iri_text i ++ rest) i rest
iri_front i rest is = subst (λ (text : List ℕ). IriAt text i rest) (sym (bracketed i rest)) (IriAt.iri (iri_text_at i rest ((iri_bytes i is.form).0)) is)

-- ---- labels

regrouped : (t a b c d : List ℕ)
    → (109 ∷ []) ++ t ++ (114 ∷ []) ++ a ++ (111 ∷ []) ++ b ++ (108 ∷ []) ++ c ++ (115 ∷ []) ++ d ≡ 109 ∷ (t ++ 114 ∷ (a ++ 111 ∷ (b ++ 108 ∷ (c ++ 115 ∷ d))))
regrouped t a b c d = simp append_assoc

pub made_label-is : (tag r o l s : ℕ)
    → made_label tag r o l s ≡ 109 ∷ (decimal tag ++ 114 ∷ (decimal r ++ 111 ∷ (decimal o ++ 108 ∷ (decimal l ++ 115 ∷ decimal s))))
made_label-is tag r o l s = regrouped (decimal tag) (decimal r) (decimal o) (decimal l) (decimal s)

decimal_label : (n : ℕ) → list_all is_label_byte (decimal n) ≡ true
decimal_label n = each_weaker is_digit is_label_byte digit_label (decimal n) (decimal_digits n)

-- a decimal, a letter and more
part_label : (n b : ℕ) (rest : List ℕ) → is_label_byte b ≡ true → list_all is_label_byte rest ≡ true → list_all is_label_byte (decimal n ++ b ∷ rest) ≡ true
part_label n b rest e all = each_joined is_label_byte (decimal n) (b ∷ rest) (decimal_label n) (and_from (is_label_byte b) (list_all is_label_byte rest) e all)

made_bytes : (tag r o l s : ℕ) → list_all is_label_byte (109 ∷ (decimal tag ++ 114 ∷ (decimal r ++ 111 ∷ (decimal o ++ 108 ∷ (decimal l ++ 115 ∷ decimal s))))) ≡ true
made_bytes tag r o l s =
    part_label tag 114 (decimal r ++ 111 ∷ (decimal o ++ 108 ∷ (decimal l ++ 115 ∷ decimal s))) refl
    (part_label r 111 (decimal o ++ 108 ∷ (decimal l ++ 115 ∷ decimal s)) refl
    (part_label o 108 (decimal l ++ 115 ∷ decimal s) refl (part_label l 115 (decimal s) refl (decimal_label s))))

some_label : (b : ℕ) (bs : List ℕ) → list_all is_label_byte (b ∷ bs) ≡ true → is_label (b ∷ bs) ≡ true
some_label b bs e = let long : nat_lt 0 (length (b ∷ bs)) ≡ true = grind (arith, nat_tests) in and_from (nat_lt 0 (length (b ∷ bs))) (list_all is_label_byte (b ∷ bs)) long e

pub made_is_label : (tag r o l s : ℕ) → is_label (made_label tag r o l s) ≡ true
made_is_label tag r o l s =
    ap is_label (made_label-is tag r o l s)
    ∙ some_label 109 (decimal tag ++ 114 ∷ (decimal r ++ 111 ∷ (decimal o ++ 108 ∷ (decimal l ++ 115 ∷ decimal s)))) (made_bytes tag r o l s)

label_bytes : (b : List ℕ) → is_label b ≡ true → list_all is_label_byte b ≡ true
label_bytes b e = (and_parts (nat_lt 0 (length b)) (list_all is_label_byte b) e).1

blank_front : (b rest : List ℕ) → is_label b ≡ true → BlankAt (95 ∷ 58 ∷ (b ++ 32 ∷ rest)) b (32 ∷ rest)
blank_front b rest e = BlankAt.blank {label = b} {rest = 32 ∷ rest} e refl

-- ---- literals

string_front : (bs after : List ℕ) → StringAt (flat_map escape bs ++ 34 ∷ after) bs after
string_front [] after = StringAt.close
string_front (b ∷ bs) after =
    let later = string_front bs after in
    by_escape b (λ e. StringAt ((e ++ flat_map escape bs) ++ 34 ∷ after) (b ∷ bs) after)
    (λ e. StringAt.short {b = 34} (ap Some (sym e)) later) (λ e. StringAt.short {b = 92} (ap Some (sym e)) later)
    (λ e. StringAt.short {b = 110} (ap Some (sym e)) later) (λ e. StringAt.short {b = 114} (ap Some (sym e)) later)
    (λ e. StringAt.plain e later)

-- the text of a literal, and what follows
abbrev text_of : List ℕ → List ℕ → Option (List ℕ) → List ℕ → List ℕ
text_of x d t rest = 34 ∷ (flat_map escape x ++ 34 ∷ (suffix d t ++ 32 ∷ rest))

untagged_front : (x d rest : List ℕ) → IsIri d → d ≢ lang_string → LiteralAt (text_of x d None rest) (literal x d None) (32 ∷ rest)
untagged_front x d rest is other =
    elim (pointwise nat_eq d xsd_string) as (λ t. pointwise nat_eq d xsd_string ≡ t → LiteralAt (34 ∷ (flat_map escape x ++ 34 ∷ (cond t [] (94 ∷ 94 ∷ iri_text d) ++ 32 ∷ rest))) (literal x d None) (32 ∷ rest)) [
      | true ↦ λ e. subst (λ (d : List ℕ). LiteralAt (34 ∷ (flat_map escape x ++ 34 ∷ 32 ∷ rest)) (literal x d None) (32 ∷ rest)) (sym (same_text d xsd_string (sym e)))
          (LiteralAt.simple (string_front x (32 ∷ rest)) refl)
      | false ↦ λ e. LiteralAt.typed (string_front x (94 ∷ 94 ∷ (iri_text d ++ 32 ∷ rest))) (iri_front d (32 ∷ rest) is) other
    ] refl

tagged_front : (x d t rest : List ℕ) → d ≡ lang_string → is_tag t ≡ true → LiteralAt (text_of x d (Some t) rest) (literal x d (Some t)) (32 ∷ rest)
tagged_front x d t rest same e =
    let low : map to_ascii_lowercase t ≡ t = lower_same t (tag_bytes t e) in
    let as_written = LiteralAt.tagged t (string_front x (64 ∷ (t ++ 32 ∷ rest))) (ap is_tag low ∙ e) refl in
    subst (λ (d : List ℕ). LiteralAt (34 ∷ (flat_map escape x ++ 34 ∷ 64 ∷ (t ++ 32 ∷ rest))) (literal x d (Some t)) (32 ∷ rest)) (sym same)
    (subst (λ (t' : List ℕ). LiteralAt (34 ∷ (flat_map escape x ++ 34 ∷ 64 ∷ (t ++ 32 ∷ rest))) (literal x lang_string (Some t')) (32 ∷ rest)) low as_written)

suffix_front : (x d : List ℕ) (t : Option (List ℕ)) (rest : List ℕ) → IsIri d → ForSome t (λ t. is_tag t ≡ true) → (IsSome t ↔ (d ≡ lang_string)) → LiteralAt (text_of x d t rest) (literal x d t) (32 ∷ rest)
suffix_front x d None rest is tag tagged = untagged_front x d rest is (λ e. false≢true (tagged.1 e))
suffix_front x d (Some t) rest is tag tagged = tagged_front x d t rest (tagged.0 refl) (tag t refl)

literal_front : (l : LiteralValue) (rest : List ℕ) → IsLiteral l → LiteralAt (literal_text l ++ 32 ∷ rest) (Literal l) (32 ∷ rest)
literal_front l rest is =
    subst (λ (text : List ℕ). LiteralAt text (Literal l) (32 ∷ rest)) (ap (λ (text : List ℕ). 34 ∷ text) (sym (append_assoc (flat_map escape l.lexical) (34 ∷ suffix l.datatype l.tag) (32 ∷ rest))))
    (suffix_front l.lexical l.datatype l.tag rest is.datatype is.tag is.tagged)

-- ---- terms

pub subject_front : (tag : ℕ) (t : Term) (rest : List ℕ) → IsSubject t → SubjectAt (term_text tag t ++ 32 ∷ rest) (named_term tag t) (32 ∷ rest)
subject_front tag (Iri i) rest is = SubjectAt.iri (iri_front i (32 ∷ rest) is)
subject_front tag (Literal l) rest is = absurd is
subject_front tag (Blank b) rest is = SubjectAt.blank (blank_front b rest is)
subject_front tag (Made r o l s) rest is = SubjectAt.blank (blank_front (made_label tag r o l s) rest (made_is_label tag r o l s))

pub object_front : (tag : ℕ) (t : Term) (rest : List ℕ) → IsTerm t → ObjectAt (term_text tag t ++ 32 ∷ rest) (named_term tag t) (32 ∷ rest)
object_front tag (Iri i) rest is = ObjectAt.subject (subject_front tag (Iri i) rest is)
object_front tag (Literal l) rest is = ObjectAt.value (literal_front l rest is)
object_front tag (Blank b) rest is = ObjectAt.subject (subject_front tag (Blank b) rest is)
object_front tag (Made r o l s) rest is = ObjectAt.subject (subject_front tag (Made r o l s) rest is)

-- ---- their bytes

piece_label : (b : List ℕ) → is_label b ≡ true → IsPiece (95 ∷ 58 ∷ b)
piece_label b e = piece_ascii (95 ∷ 58 ∷ b) (each_weaker is_label_byte is_ascii_inner inner_label b (label_bytes b e))

piece_suffix : (d : List ℕ) (t : Option (List ℕ)) → IsIri d → ForSome t (λ t. is_tag t ≡ true) → IsPiece (34 ∷ suffix d t)
piece_suffix d None is tag =
    elim (pointwise nat_eq d xsd_string) as (λ b. IsPiece (34 ∷ cond b [] (94 ∷ 94 ∷ iri_text d))) [
      | true ↦ piece_ascii (34 ∷ []) refl
      | false ↦ piece_append (34 ∷ 94 ∷ 94 ∷ []) (iri_text d) (piece_ascii (34 ∷ 94 ∷ 94 ∷ []) refl) (piece_iri d is)
    ]
piece_suffix d (Some t) is tag = piece_ascii (34 ∷ 64 ∷ t) (each_weaker is_low_byte is_ascii_inner inner_low t (tag_bytes t (tag t refl)))

piece_literal : (l : LiteralValue) → IsLiteral l → IsPiece (literal_text l)
piece_literal l is =
    piece_append (34 ∷ flat_map escape l.lexical) (34 ∷ suffix l.datatype l.tag)
    (piece_append (34 ∷ []) (flat_map escape l.lexical) (piece_ascii (34 ∷ []) refl) (piece_escaped l.lexical is.lexical)) (piece_suffix l.datatype l.tag is.datatype is.tag)

pub piece_term : (tag : ℕ) (t : Term) → IsTerm t → IsPiece (term_text tag t)
piece_term tag (Iri i) is = piece_iri i is
piece_term tag (Literal l) is = piece_literal l is
piece_term tag (Blank b) is = piece_label b is
piece_term tag (Made r o l s) is = piece_label (made_label tag r o l s) (made_is_label tag r o l s)
