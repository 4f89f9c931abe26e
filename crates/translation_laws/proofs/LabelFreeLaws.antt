-- Where no blank label of a dataset begins with a mark, none does after a run: requests bring no
-- blank node but made ones.
use Rattle.std.proofs.Common.{◌≡◌, ℕ, false, ◌||◌, List, [], ◌∷◌, Option, Some, None, Ok, Err, refl}
use Rattle.std.specs.Prelude.{IfSome}
use Rattle.std.specs.List.{AllByRecursion, list_any}
use Rattle.std.proofs.lemmas.Bool.{false≢true, or_parts}
use Rattle.std.proofs.lemmas.List.Elements.{recursion_from_All}
use Rattle.sets.proofs.Every.{all_weaker}
use Rattle.datasets.specs.declared.quad.Quad.{Quad}
use Rattle.datasets.specs.Dataset.{Dataset}
use Rattle.terms.specs.declared.term.Term.{Term}
use Rattle.terms.specs.declared.term.Term.TheVariants.{Iri, Literal, Blank, Made}
use Rattle.meaning.specs.Run.{Request}
use Rattle.canonical_nquads.specs.Tag.{has_mark, is_marked}
use Rattle.nquads_laws.specs.WellFormed.{IsIriTerm, IsQuad, IsWellFormed}
use Rattle.rules.specs.Refusal.{IsChecked}
use Rattle.translation_laws.proofs.TermLaws.{IsWritten}
use Rattle.translation_laws.proofs.WrittenLaws.{request_brought}
use Rattle.translation_laws.proofs.KeptLaws.{IsKept, IsBrought}

module _ (mark : List ℕ) where
  abbrev pub IsFree : Term → Type 0
  IsFree t = has_mark mark t ≡ false

  abbrev pub IsFreeQuad : Quad Term → Type 0
  IsFreeQuad q = IsFree q.subject × IsFree q.predicate × IsFree q.object × IfSome q.graph IsFree

  pub free : IsKept IsFree IsFree IsFreeQuad
  free = record {
    name = λ t h. h;
    made = λ r o l s numbers. refl;
    quad = λ q h. h;
    legal = λ s p o g hs hp ho hg e. (hs, hp, ho, hg);
    moved = λ g q h hg. (h.0, h.1, h.2, hg);
  }

  -- ---- what requests bring

  iri_free : (t : Term) → IsIriTerm t → IsFree t
  iri_free (Iri i) h = refl
  iri_free (Literal l) h = absurd h
  iri_free (Blank b) h = absurd h
  iri_free (Made r o l s) h = absurd h

  written_free : (t : Term) → IsWritten t → IsFree t
  written_free (Iri i) h = refl
  written_free (Literal l) h = refl
  written_free (Blank b) h = absurd (false≢true h.0)
  written_free (Made r o l s) h = refl

  pub checked_free : (text : List ℕ) (r : Request Term) → IsChecked text r → IsBrought IsFree IsFree IsFreeQuad free r
  checked_free text (Ok update) h = request_brought IsFree IsFree written_free iri_free text update h
  checked_free text (Err kind) h = tt

  -- ---- datasets

  graph_free : (g : Option Term) → ((t : Term) → g ≡ Some t → IsIriTerm t) → IfSome g IsFree
  graph_free None h = tt
  graph_free (Some g) h = iri_free g (h g refl)

  quads_free : (qs : List (Quad Term)) → AllByRecursion IsQuad qs → list_any (is_marked mark) qs ≡ false → AllByRecursion IsFreeQuad qs
  quads_free [] h e = tt
  quads_free (q ∷ qs) h e =
      let parts = or_parts (is_marked mark q) (list_any (is_marked mark) qs) e in
      let ends = or_parts (has_mark mark q.subject) (has_mark mark q.object) parts.0 in
      let is = h.0 in
      ((ends.0, iri_free q.predicate is.predicate, ends.1, graph_free q.graph is.graph), quads_free qs h.1 parts.1)

  pub dataset_free : (d : Dataset Term) → IsWellFormed d → list_any (is_marked mark) d.quads ≡ false → AllByRecursion IsFreeQuad d.quads × AllByRecursion IsFree d.names
  dataset_free d w e = (quads_free d.quads (recursion_from_All IsQuad d.quads w.quads) e, all_weaker IsIriTerm IsFree iri_free d.names (recursion_from_All IsIriTerm d.names w.names))

  pub none_marked : (qs : List (Quad Term)) → AllByRecursion IsFreeQuad qs → list_any (is_marked mark) qs ≡ false
  none_marked [] h = refl
  none_marked (q ∷ qs) h =
      let is = h.0 in
      let subject = is.0 in
      let object = is.2 in
      let rest = none_marked qs h.1 in
      λ i. (subject i || object i) || rest i
