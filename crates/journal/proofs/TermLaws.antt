-- The words and terms that are written are read.
use Rattle.std.specs.Prelude.{ℕ, ◌<◌, ◌^◌, nat_eq, codes}
use Rattle.std.proofs.Common.{◌≡◌, true, false, List, [], ◌∷◌, ◌++◌, Option, Some, None, refl, sym, ap, ◌∙◌, drop, arith}
use Rattle.std.specs.List.{list_all, flat_map, starts_with}
use Rattle.std.specs.Fmt.{decimal}
use Rattle.std.proofs.Math.Seq.{drop-append_seam}
use Rattle.std.proofs.lemmas.List.{append-nil}
use Rattle.iris.specs.Iri.{is_digit}
use Rattle.iris.specs.Runs.{RunsAreLongest}
use Rattle.datasets.specs.declared.read.GraphPlace.{GraphPlace}
use Rattle.datasets.specs.declared.read.GraphPlace.TheVariants.{Any, Only}
use Rattle.datasets.specs.declared.read.Read.{Read}
use Rattle.datasets.specs.declared.read.Read.TheVariants.{Scan, GraphIs, Graphs}
use Rattle.terms.specs.Canonical.{term_text}
use Rattle.terms.specs.declared.term.Term.{Term}
use Rattle.terms.specs.declared.term.Term.TheVariants.{Iri, Literal, Blank, Made}
use Rattle.nquads_lines.specs.ReadTerms.{object_at}
use Rattle.canonical_nquads.specs.Tag.{mark_of}
use Rattle.nquads_laws.specs.Named.{named_term}
use Rattle.nquads_laws.specs.WellFormed.{IsTerm}
use Rattle.nquads_laws.proofs.Labels.{label_is, starts-append}
use Rattle.journal.specs.Text.{place_word, graph_word, read_words, spaced}
use Rattle.journal.specs.Lines.{IsHeld, IsPlace, IsGraphPlace, IsRead}
use Rattle.journal.specs.Words.{is_word_byte, word, behind}
use Rattle.journal.specs.ReadTerms.{part_at, made_of, unlabelled, term_at, place_at, graph_at, scan_at, read_at}
use Rattle.journal.proofs.NumberLaws.{decimal_digits, part_is_read}

-- ---- words

pub word_front : RunsAreLongest → (w rest : List ℕ) → list_all is_word_byte w ≡ true → (word (w ++ 32 ∷ rest) ≡ w) × (behind (w ++ 32 ∷ rest) ≡ rest)
word_front runs w rest e =
    let h = (runs is_word_byte (w ++ 32 ∷ rest) w (32 ∷ rest)).1 (record { cut = refl; all = e; stops = refl }) in
    (h.0, ap (drop 1) h.1)

pub word_last : RunsAreLongest → (w : List ℕ) → list_all is_word_byte w ≡ true → word (w ++ []) ≡ w
word_last runs w e = ((runs is_word_byte (w ++ []) w []).1 (record { cut = refl; all = e; stops = tt })).0

-- the words of a line, without the space before the first
abbrev pub joined : List (List ℕ) → List ℕ
joined words = drop 1 (flat_map spaced words)

-- ---- labels of made nodes

abbrev after_mark : ℕ → ℕ → ℕ → ℕ → List ℕ
after_mark r o l s = decimal r ++ 111 ∷ (decimal o ++ 108 ∷ (decimal l ++ 115 ∷ decimal s))

part_front : RunsAreLongest → (n c : ℕ) (rest : List ℕ) → n < 2 ^ 32 → is_digit c ≡ false → part_at (decimal n ++ c ∷ rest) ≡ Some (n, rest)
unfolding part_at
part_front runs n c rest low stops =
    let h = (runs is_digit (decimal n ++ c ∷ rest) (decimal n) (c ∷ rest)).1 (record { cut = refl; all = decimal_digits n (omega arith); stops = stops }) in
    rw (h.0, h.1, part_is_read n low) refl

part_last : RunsAreLongest → (n : ℕ) → n < 2 ^ 32 → part_at (decimal n) ≡ Some (n, [])
unfolding part_at
part_last runs n low =
    let h = (runs is_digit (decimal n) (decimal n) []).1 (record { cut = sym (append-nil (decimal n)); all = decimal_digits n (omega arith); stops = tt }) in
    rw (h.0, h.1, part_is_read n low) refl

made_read : RunsAreLongest → (r o l s : ℕ) → IsTerm (Made r o l s) → made_of (after_mark r o l s) ≡ Some (Made r o l s)
unfolding made_of
made_read runs r o l s is =
    rw (
      part_front runs r 111 (decimal o ++ 108 ∷ (decimal l ++ 115 ∷ decimal s)) is.request refl,
      part_front runs o 108 (decimal l ++ 115 ∷ decimal s) is.op refl,
      part_front runs l 115 (decimal s) is.label refl,
      part_last runs s is.rank,
    ) refl

marked_read : RunsAreLongest → (mark : List ℕ) (r o l s : ℕ) → IsTerm (Made r o l s) → unlabelled mark (Blank (mark ++ after_mark r o l s)) ≡ Some (Made r o l s)
marked_read runs mark r o l s is =
    rw (starts-append mark (after_mark r o l s), drop-append_seam mark (after_mark r o l s)) (made_read runs r o l s is)

-- ---- terms

unlabelled_named : RunsAreLongest → (tag : ℕ) (t : Term) → IsHeld (mark_of tag) t → unlabelled (mark_of tag) (named_term tag t) ≡ Some t
unlabelled_named runs tag (Iri i) is = refl
unlabelled_named runs tag (Literal l) is = refl
unlabelled_named runs tag (Blank b) is = rw (is.1) refl
unlabelled_named runs tag (Made r o l s) is =
    ap (λ (b : List ℕ). unlabelled (mark_of tag) (Blank b)) (label_is tag r o l s) ∙ marked_read runs (mark_of tag) r o l s is.0

abbrev pub TermsAreRead : Type 0
TermsAreRead = (tag : ℕ) (t : Term) (rest : List ℕ) → IsTerm t → object_at (term_text tag t ++ 32 ∷ rest) ≡ Some (named_term tag t, 32 ∷ rest)

term_front : RunsAreLongest → TermsAreRead → (tag : ℕ) (t : Term) (rest : List ℕ) → IsHeld (mark_of tag) t → term_at (mark_of tag) (term_text tag t ++ 32 ∷ rest) ≡ Some (t, rest)
unfolding term_at
term_front runs terms tag t rest is = rw (terms tag t rest is.0, unlabelled_named runs tag t is) refl

no_dash : (tag : ℕ) (t : Term) (rest : List ℕ) → starts_with nat_eq (term_text tag t ++ rest) (codes "-") ≡ false
no_dash tag (Iri i) rest = refl
no_dash tag (Literal l) rest = refl
no_dash tag (Blank b) rest = refl
no_dash tag (Made r o l s) rest = refl

no_default : (tag : ℕ) (t : Term) (rest : List ℕ) → starts_with nat_eq (term_text tag t ++ rest) (codes "default") ≡ false
no_default tag (Iri i) rest = refl
no_default tag (Literal l) rest = refl
no_default tag (Blank b) rest = refl
no_default tag (Made r o l s) rest = refl

place_front : RunsAreLongest → TermsAreRead → (tag : ℕ) (x : Option Term) (rest : List ℕ) → IsPlace (mark_of tag) x
    → place_at (mark_of tag) (place_word tag x ++ 32 ∷ rest) ≡ Some (x, rest)
unfolding place_at
place_front runs terms tag None rest is = refl
place_front runs terms tag (Some t) rest is = rw (no_dash tag t (32 ∷ rest), term_front runs terms tag t rest is) refl

graph_front : RunsAreLongest → TermsAreRead → (tag : ℕ) (g : GraphPlace Term) (rest : List ℕ) → IsGraphPlace (mark_of tag) g
    → graph_at (mark_of tag) (graph_word tag g ++ 32 ∷ rest) ≡ Some (g, rest)
unfolding graph_at
graph_front runs terms tag Any rest is = refl
graph_front runs terms tag (Only None) rest is = refl
graph_front runs terms tag (Only (Some t)) rest is = rw (no_dash tag t (32 ∷ rest), no_default tag t (32 ∷ rest), term_front runs terms tag t rest is) refl

-- what a worker read, and the words behind it
pub read_front : RunsAreLongest → TermsAreRead → (tag : ℕ) (q : Read Term) (w : List ℕ) (ws : List (List ℕ)) → IsRead (mark_of tag) q
    → read_at (mark_of tag) (joined (read_words tag q ++ w ∷ ws)) ≡ Some (q, joined (w ∷ ws))
unfolding read_at scan_at
read_front runs terms tag (Scan p) w ws is =
    let rest : List ℕ = joined (w ∷ ws) in
    let graph : List ℕ = graph_word tag p.graph ++ 32 ∷ rest in
    let object : List ℕ = place_word tag p.object ++ 32 ∷ graph in
    let predicate : List ℕ = place_word tag p.predicate ++ 32 ∷ object in
    rw (
      place_front runs terms tag p.subject predicate is.subject,
      place_front runs terms tag p.predicate object is.predicate,
      place_front runs terms tag p.object graph is.object,
      graph_front runs terms tag p.graph rest is.graph,
    ) refl
read_front runs terms tag (GraphIs t) w ws is = rw (term_front runs terms tag t (joined (w ∷ ws)) is) refl
read_front runs terms tag Graphs w ws is = refl
