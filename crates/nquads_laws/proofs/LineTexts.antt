-- The line that is written for a quad or for a graph says it, and has no line end.
use Rattle.std.specs.Prelude.{ℕ}
use Rattle.std.proofs.Common.{◌≡◌, true, List, [], ◌∷◌, ◌++◌, Option, Some, None, refl, sym, ap, ◌∙◌, subst, append_assoc}
use Rattle.std.specs.List.{list_all}
use Rattle.std.specs.Option.{ForSome, option_map}
use Rattle.std.proofs.lemmas.List.{append-nil}
use Rattle.iris.specs.Iri.{IsIri}
use Rattle.datasets.specs.declared.quad.Quad.{Quad}
use Rattle.terms.specs.declared.term.Term.{Term}
use Rattle.terms.specs.declared.term.Term.TheVariants.{Iri, Literal, Blank, Made}
use Rattle.terms.specs.Canonical.{iri_text, term_text}
use Rattle.nquads_lines.specs.declared.stop.Line.{Line}
use Rattle.nquads_lines.specs.declared.stop.Line.TheVariants.{Graph, Statement}
use Rattle.nquads_lines.specs.Lines.{is_inner}
use Rattle.nquads_lines.specs.Escapes.{IriAt}
use Rattle.nquads_lines.specs.Line.{Gap, at_end, default_graph, named, GraphAt, declares, states, Says, IsLine, graph_mark}
use Rattle.canonical_nquads.specs.Canonical.{graph_text, quad_text, graph_line}
use Rattle.nquads_laws.specs.WellFormed.{IsTerm, IsSubject, IsIriTerm, IsQuad}
use Rattle.nquads_laws.specs.Named.{named_term, named_quad}
use Rattle.nquads_laws.proofs.Pieces.{IsPiece, piece_append, piece_ascii, piece_iri}
use Rattle.nquads_laws.proofs.TermTexts.{iri_front, subject_front, object_front, piece_term}

-- ---- quads by their IRIs

abbrev pub quad_of : Term → List ℕ → Term → Option (List ℕ) → Quad Term
quad_of s p o n = record { subject = s; predicate = Iri p; object = o; graph = option_map Iri n }

pub record IriOf (t : Term) : Type 0 where
  pub iri : List ℕ
  pub same : t ≡ Iri iri
  pub is : IsIri iri

pub iri_of : (t : Term) → IsIriTerm t → IriOf t
iri_of (Iri i) is = record { iri = i; same = refl; is = is }
iri_of (Literal l) is = absurd is
iri_of (Blank b) is = absurd is
iri_of (Made r o l s) is = absurd is

pub record GraphOf (g : Option Term) : Type 0 where
  pub name : Option (List ℕ)
  pub same : g ≡ option_map Iri name
  pub is : ForSome name IsIri

pub graph_of : (g : Option Term) → ForSome g IsIriTerm → GraphOf g
graph_of None is = record { name = None; same = refl; is = λ x e. absurd cc }
graph_of (Some g) is =
    let i = iri_of g (is g refl) in
    record { name = Some i.iri; same = ap (λ (t : Term). Some t) i.same; is = λ x e. subst IsIri (let same : i.iri ≡ x = cc in same) i.is }

-- what holds of each such quad holds of each quad of a well-formed dataset
pub by_iris : (C : Quad Term → Type 0)
    → ((s o : Term) (p : List ℕ) (n : Option (List ℕ)) → IsSubject s → IsIri p → IsTerm o → ForSome n IsIri → C (quad_of s p o n))
    → (q : Quad Term) → IsQuad q → C q
by_iris C f q is =
    let p = iri_of q.predicate is.predicate in
    let g = graph_of q.graph is.graph in
    let same : q ≡ quad_of q.subject p.iri q.object g.name = λ i. record { subject = q.subject; predicate = p.same i; object = q.object; graph = g.same i } in
    subst C (sym same) (f q.subject q.object p.iri g.name is.subject p.is is.object g.is)

pub subject_is_term : (t : Term) → IsSubject t → IsTerm t
subject_is_term (Iri i) is = is
subject_is_term (Literal l) is = absurd is
subject_is_term (Blank b) is = is
subject_is_term (Made r o l s) is = is

-- ---- lines

-- a line that says this, and doesn't end before its end
pub record IsWhole (line : List ℕ) (said : Line) : Type 0 where
  pub inner : list_all is_inner line ≡ true
  pub is : IsLine line said

whole : (line : List ℕ) (said : Line) → IsPiece line → Says line said → IsWhole line said
whole line said piece says = record { inner = piece.inner; is = record { utf8 = piece.utf8; says = says } }

no_gap : (text : List ℕ) → Gap text text
no_gap text = record { blanks = []; cut = refl; each = refl }

space : (text : List ℕ) → Gap (32 ∷ text) text
space text = record { blanks = 32 ∷ []; cut = refl; each = refl }

-- from the place of the graph on
abbrev after_object : Option (List ℕ) → List ℕ
after_object None = 46 ∷ []
after_object (Some g) = iri_text g ++ 32 ∷ 46 ∷ []

end_is : (tag : ℕ) (n : Option (List ℕ)) → graph_text tag (option_map Iri n) ++ 32 ∷ 46 ∷ [] ≡ 32 ∷ after_object n
end_is tag None = refl
end_is tag (Some g) = refl

graph_front : (tag : ℕ) (n : Option (List ℕ)) → ForSome n IsIri → GraphAt (after_object n) (option_map (named_term tag) (option_map Iri n)) (46 ∷ [])
graph_front tag None is = default_graph
graph_front tag (Some g) is = named (iri_front g (32 ∷ 46 ∷ []) (is g refl)) (space (46 ∷ []))

piece_graph : (tag : ℕ) (n : Option (List ℕ)) → ForSome n IsIri → IsPiece (graph_text tag (option_map Iri n))
piece_graph tag None is = piece_ascii [] refl
piece_graph tag (Some g) is = piece_append (32 ∷ []) (iri_text g) (piece_ascii (32 ∷ []) refl) (piece_iri g (is g refl))

regrouped : (a b c d e : List ℕ) → (((a ++ b) ++ c) ++ d) ++ e ≡ a ++ (b ++ (c ++ (d ++ e)))
regrouped a b c d e = simp append_assoc

text_is : (tag : ℕ) (s o : Term) (p : List ℕ) (n : Option (List ℕ))
    → quad_text tag (quad_of s p o n) ≡ term_text tag s ++ 32 ∷ (iri_text p ++ 32 ∷ (term_text tag o ++ 32 ∷ after_object n))
text_is tag s o p n =
    regrouped (term_text tag s) (32 ∷ iri_text p) (32 ∷ term_text tag o) (graph_text tag (option_map Iri n)) (32 ∷ 46 ∷ [])
    ∙ ap (λ (text : List ℕ). term_text tag s ++ 32 ∷ (iri_text p ++ 32 ∷ (term_text tag o ++ text))) (end_is tag n)

quad_says : (tag : ℕ) (s o : Term) (p : List ℕ) (n : Option (List ℕ)) → IsSubject s → IsIri p → IsTerm o → ForSome n IsIri
    → Says (quad_text tag (quad_of s p o n)) (Statement (named_quad tag (quad_of s p o n)))
quad_says tag s o p n a b c d =
    let third : List ℕ = term_text tag o ++ 32 ∷ after_object n in
    let second : List ℕ = iri_text p ++ 32 ∷ third in
    subst (λ (line : List ℕ). Says line (Statement (named_quad tag (quad_of s p o n)))) (sym (text_is tag s o p n))
    (states (no_gap (term_text tag s ++ 32 ∷ second)) (subject_front tag s second a) (space second) (iri_front p (32 ∷ third) b) (space third) (object_front tag o (after_object n) c)
    (space (after_object n)) (graph_front tag n d) (at_end (no_gap [])))

piece_quad : (tag : ℕ) (s o : Term) (p : List ℕ) (n : Option (List ℕ)) → IsSubject s → IsIri p → IsTerm o → ForSome n IsIri → IsPiece (quad_text tag (quad_of s p o n))
piece_quad tag s o p n a b c d =
    let x : List ℕ = term_text tag s in
    let y : List ℕ = 32 ∷ iri_text p in
    let z : List ℕ = 32 ∷ term_text tag o in
    let g : List ℕ = graph_text tag (option_map Iri n) in
    let one : IsPiece (32 ∷ []) = piece_ascii (32 ∷ []) refl in
    piece_append (((x ++ y) ++ z) ++ g) (32 ∷ 46 ∷ [])
    (piece_append ((x ++ y) ++ z) g
    (piece_append (x ++ y) z
    (piece_append x y (piece_term tag s (subject_is_term s a)) (piece_append (32 ∷ []) (iri_text p) one (piece_iri p b)))
    (piece_append (32 ∷ []) (term_text tag o) one (piece_term tag o c)))
    (piece_graph tag n d))
    (piece_ascii (32 ∷ 46 ∷ []) refl)

pub whole_quad : (tag : ℕ) (q : Quad Term) → IsQuad q → IsWhole (quad_text tag q) (Statement (named_quad tag q))
whole_quad tag q is =
    by_iris (λ q. IsWhole (quad_text tag q) (Statement (named_quad tag q)))
    (λ s o p n a b c d. whole (quad_text tag (quad_of s p o n)) (Statement (named_quad tag (quad_of s p o n))) (piece_quad tag s o p n a b c d) (quad_says tag s o p n a b c d)) q is

graph_says : (tag : ℕ) (g : List ℕ) → IsIri g → Says (graph_line tag (Iri g)) (Graph (Iri g))
graph_says tag g is =
    let at : IriAt (iri_text g) g [] = subst (λ (text : List ℕ). IriAt text g []) (append-nil (iri_text g)) (iri_front g [] is) in
    declares refl at (no_gap [])

pub whole_graph : (tag : ℕ) (t : Term) → IsIriTerm t → IsWhole (graph_line tag t) (Graph t)
whole_graph tag t is =
    let i = iri_of t is in
    subst (λ (t : Term). IsWhole (graph_line tag t) (Graph t)) (sym i.same)
    (whole (graph_line tag (Iri i.iri)) (Graph (Iri i.iri)) (piece_append graph_mark (iri_text i.iri) (piece_ascii graph_mark refl) (piece_iri i.iri i.is)) (graph_says tag i.iri i.is))
