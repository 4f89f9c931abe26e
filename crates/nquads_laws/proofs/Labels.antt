-- Labels of made nodes, which tell them apart from each other and from what is written.
use Rattle.std.specs.Prelude.{ℕ, Bool, ◌<◌, ◌^◌, nat_eq}
use Rattle.std.proofs.Common.{◌≡◌, true, false, List, [], ◌∷◌, ◌++◌, Option, Some, None, refl, sym, ap, ◌∙◌, append_assoc, arith}
use Rattle.std.specs.List.{list_all, flat_map, starts_with, AllByRecursion, Contains}
use Rattle.std.specs.Option.{ForSome, option_to_list}
use Rattle.std.specs.Fmt.{decimal}
use Rattle.std.specs.Cmp.Lexicographic.{pointwise}
use Rattle.std.proofs.Math.Seq.{take-append_seam}
use Rattle.std.proofs.lemmas.Bool.{or_parts, false≢true}
use Rattle.std.proofs.lemmas.Cmp.{nat_list_eq_equiv}
use Rattle.std.proofs.lemmas.Fmt.{decimal_injective}
use Rattle.std.proofs.lemmas.List.{append_cancel_left}
use Rattle.std.proofs.lemmas.List.Elements.{All-contains, All-from_recursion, recursion_from_All}
use Rattle.sets.proofs.Every.{all_weaker, all_joined, all_flat_map, none_passes}
use Rattle.iris.specs.Iri.{is_digit}
use Rattle.iris.specs.Runs.{RunsAreLongest}
use Rattle.datasets.specs.declared.quad.Quad.{Quad}
use Rattle.datasets.specs.Dataset.{Dataset}
use Rattle.terms.specs.declared.term.Term.{Term}
use Rattle.terms.specs.declared.term.Term.TheVariants.{Iri, Literal, Blank, Made}
use Rattle.terms.specs.Canonical.{made_label}
use Rattle.canonical_nquads.specs.Tag.{mark_of, has_mark, is_marked, is_taken}
use Rattle.nquads_laws.specs.WellFormed.{AreMadeNumbers, IsTerm, IsIriTerm, IsQuad, IsWellFormed, terms_in, terms_of}
use Rattle.nquads_laws.specs.Named.{named_term}
use Rattle.nquads_laws.proofs.Bytes.{decimal_digits}
use Rattle.nquads_laws.proofs.Members.{all_both}
use Rattle.nquads_laws.proofs.LineTexts.{subject_is_term}

-- ---- a label begins with its tag's mark

abbrev after_mark : ℕ → ℕ → ℕ → ℕ → List ℕ
after_mark r o l s = decimal r ++ 111 ∷ (decimal o ++ 108 ∷ (decimal l ++ 115 ∷ decimal s))

regrouped : (m a b c d : List ℕ) → m ++ a ++ (111 ∷ []) ++ b ++ (108 ∷ []) ++ c ++ (115 ∷ []) ++ d ≡ m ++ (a ++ 111 ∷ (b ++ 108 ∷ (c ++ 115 ∷ d)))
regrouped m a b c d = simp append_assoc

pub label_is : (tag r o l s : ℕ) → made_label tag r o l s ≡ mark_of tag ++ after_mark r o l s
label_is tag r o l s = regrouped (mark_of tag) (decimal r) (decimal o) (decimal l) (decimal s)

pub starts-append : (xs ys : List ℕ) → starts_with nat_eq (xs ++ ys) xs ≡ true
starts-append xs ys = ap (pointwise nat_eq xs) (take-append_seam xs ys) ∙ nat_list_eq_equiv.refl xs

label_marked : (tag r o l s : ℕ) → starts_with nat_eq (made_label tag r o l s) (mark_of tag) ≡ true
label_marked tag r o l s = ap (λ (b : List ℕ). starts_with nat_eq b (mark_of tag)) (label_is tag r o l s) ∙ starts-append (mark_of tag) (after_mark r o l s)

-- ---- terms that the tag leaves apart

-- a term of its form, and no label with the mark
abbrev pub IsFree : ℕ → Term → Type 0
IsFree tag t = IsTerm t × (has_mark (mark_of tag) t ≡ false)

free_iri : (tag : ℕ) (t : Term) → IsIriTerm t → IsFree tag t
free_iri tag (Iri i) is = (is, refl)
free_iri tag (Literal l) is = absurd is
free_iri tag (Blank b) is = absurd is
free_iri tag (Made r o l s) is = absurd is

free_graph : (tag : ℕ) (g : Option Term) → ForSome g IsIriTerm → AllByRecursion (IsFree tag) (option_to_list g)
free_graph tag None is = tt
free_graph tag (Some t) is = (free_iri tag t (is t refl), tt)

free_in : (tag : ℕ) (q : Quad Term) → IsQuad q → is_marked (mark_of tag) q ≡ false → AllByRecursion (IsFree tag) (terms_in q)
free_in tag q is free =
    let h = or_parts (has_mark (mark_of tag) q.subject) (has_mark (mark_of tag) q.object) free in
    ((subject_is_term q.subject is.subject, h.0), (free_iri tag q.predicate is.predicate, ((is.object, h.1), free_graph tag q.graph is.graph)))

pub free_quads : (tag : ℕ) (d : Dataset Term) → IsWellFormed d → is_taken d.quads tag ≡ false → AllByRecursion (λ q. AllByRecursion (IsFree tag) (terms_in q)) d.quads
free_quads tag d is free =
    all_both IsQuad (λ q. is_marked (mark_of tag) q ≡ false) (λ q. AllByRecursion (IsFree tag) (terms_in q)) (free_in tag) d.quads
    (recursion_from_All IsQuad d.quads is.quads) (none_passes (is_marked (mark_of tag)) d.quads free)

free_terms : (tag : ℕ) (d : Dataset Term) → IsWellFormed d → is_taken d.quads tag ≡ false → AllByRecursion (IsFree tag) (terms_of d)
free_terms tag d is free =
    all_joined (IsFree tag) (flat_map terms_in d.quads) d.names (all_flat_map (IsFree tag) terms_in d.quads (free_quads tag d is free))
    (all_weaker IsIriTerm (IsFree tag) (free_iri tag) d.names (recursion_from_All IsIriTerm d.names is.names))

-- ---- by the law of runs: a label is cut at its letters

module _ (runs : RunsAreLongest) where
  cut_same : (p : ℕ → Bool) (c : ℕ) (xs ys us vs : List ℕ) → p c ≡ false → list_all p xs ≡ true → list_all p ys ≡ true → xs ++ c ∷ us ≡ ys ++ c ∷ vs → (xs ≡ ys) × (us ≡ vs)
  cut_same p c xs ys us vs stop a b e =
      let one = (runs p (xs ++ c ∷ us) xs (c ∷ us)).1 (record { cut = refl; all = a; stops = stop }) in
      let two = (runs p (xs ++ c ∷ us) ys (c ∷ vs)).1 (record { cut = e; all = b; stops = stop }) in
      (sym one.0 ∙ two.0, append_cancel_left (c ∷ []) us vs (sym one.1 ∙ two.1))

  -- a decimal, and what follows it
  number_same : (c m n : ℕ) (us vs : List ℕ) → is_digit c ≡ false → m < 2 ^ 32 → n < 2 ^ 32 → decimal m ++ c ∷ us ≡ decimal n ++ c ∷ vs → (m ≡ n) × (us ≡ vs)
  number_same c m n us vs stop a b e =
      let h = cut_same is_digit c (decimal m) (decimal n) us vs stop (decimal_digits m) (decimal_digits n) e in
      (decimal_injective m n (omega arith) (omega arith) h.0, h.1)

  made_same : (tag r o l s r' o' l' s' : ℕ) → AreMadeNumbers r o l s → AreMadeNumbers r' o' l' s' → made_label tag r o l s ≡ made_label tag r' o' l' s' → Made r o l s ≡ Made r' o' l' s'
  made_same tag r o l s r' o' l' s' a b e =
      let after : after_mark r o l s ≡ after_mark r' o' l' s' =
      append_cancel_left (mark_of tag) (after_mark r o l s) (after_mark r' o' l' s') (sym (label_is tag r o l s) ∙ e ∙ label_is tag r' o' l' s') in
      let h1 = number_same 111 r r' (decimal o ++ 108 ∷ (decimal l ++ 115 ∷ decimal s)) (decimal o' ++ 108 ∷ (decimal l' ++ 115 ∷ decimal s')) refl a.request b.request after in
      let h2 = number_same 108 o o' (decimal l ++ 115 ∷ decimal s) (decimal l' ++ 115 ∷ decimal s') refl a.op b.op h1.1 in
      let h3 = number_same 115 l l' (decimal s) (decimal s') refl a.label b.label h2.1 in
      let low : s < 2 ^ 32 = a.rank in
      let low' : s' < 2 ^ 32 = b.rank in
      let h4 : s ≡ s' = decimal_injective s s' (omega arith) (omega arith) h3.1 in
      λ i. Made (h1.0 i) (h2.0 i) (h3.0 i) (h4 i)

  -- a label that lacks the mark is no made node's
  unmarked : {A : Type 0} (tag r o l s : ℕ) (b : List ℕ) → has_mark (mark_of tag) (Blank b) ≡ false → b ≡ made_label tag r o l s → A
  unmarked tag r o l s b free e = absurd (false≢true (sym free ∙ ap (λ (b : List ℕ). starts_with nat_eq b (mark_of tag)) e ∙ label_marked tag r o l s))

  pub terms_apart : (tag : ℕ) (x y : Term) → IsTerm x → IsTerm y → has_mark (mark_of tag) x ≡ false → has_mark (mark_of tag) y ≡ false → named_term tag x ≡ named_term tag y → x ≡ y
  terms_apart tag (Iri a) (Iri b) p q f g e = e
  terms_apart tag (Iri a) (Literal b) p q f g e = e
  terms_apart tag (Iri a) (Blank b) p q f g e = e
  terms_apart tag (Iri a) (Made r o l s) p q f g e = absurd cc
  terms_apart tag (Literal a) (Iri b) p q f g e = e
  terms_apart tag (Literal a) (Literal b) p q f g e = e
  terms_apart tag (Literal a) (Blank b) p q f g e = e
  terms_apart tag (Literal a) (Made r o l s) p q f g e = absurd cc
  terms_apart tag (Blank a) (Iri b) p q f g e = e
  terms_apart tag (Blank a) (Literal b) p q f g e = e
  terms_apart tag (Blank a) (Blank b) p q f g e = e
  terms_apart tag (Blank a) (Made r o l s) p q f g e = unmarked tag r o l s a f (let same : a ≡ made_label tag r o l s = cc in same)
  terms_apart tag (Made r o l s) (Iri b) p q f g e = absurd cc
  terms_apart tag (Made r o l s) (Literal b) p q f g e = absurd cc
  terms_apart tag (Made r o l s) (Blank b) p q f g e = unmarked tag r o l s b g (let same : b ≡ made_label tag r o l s = cc in same)
  terms_apart tag (Made r o l s) (Made r' o' l' s') p q f g e = made_same tag r o l s r' o' l' s' p q (let same : made_label tag r o l s ≡ made_label tag r' o' l' s' = cc in same)

  pub named_apart : (d : Dataset Term) (tag : ℕ) → IsWellFormed d → is_taken d.quads tag ≡ false
      → (x y : Term) → Contains (terms_of d) x → Contains (terms_of d) y → named_term tag x ≡ named_term tag y → x ≡ y
  named_apart d tag is free x y a b e =
      let each = All-from_recursion (IsFree tag) (terms_of d) (free_terms tag d is free) in
      let p : IsFree tag x = All-contains (IsFree tag) (terms_of d) x each a in
      let q : IsFree tag y = All-contains (IsFree tag) (terms_of d) y each b in
      terms_apart tag x y p.0 q.0 p.1 q.1 e
