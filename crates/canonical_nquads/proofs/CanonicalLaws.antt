-- The lines of a dataset are those of any lists that make it.
use Rattle.std.specs.Prelude.{ℕ, Bool, ◌&&◌, ◌||◌, not, map, filter}
use Rattle.std.proofs.Common.{◌≡◌, List, [], ◌∷◌, refl, sym, ap, ◌∙◌}
use Rattle.std.specs.List.{list_any, flat_map}
use Rattle.std.specs.Ordering.{eq_by_cmp}
use Rattle.std.proofs.lemmas.List.Folds.{list_any-append}
use Rattle.sets.specs.Sets.{set_of, has}
use Rattle.sets.proofs.SetLaws.{has-set_of, sorted-set_of, same_set}
use Rattle.sets.proofs.Filters.{any-filter}
use Rattle.datasets.specs.declared.quad.Quad.{Quad}
use Rattle.datasets.specs.Dataset.{Dataset, quad_order, names_of}
use Rattle.terms.specs.declared.term.Term.{Term}
use Rattle.terms.specs.Term.{text_cmp, term_order}
use Rattle.terms.specs.TermLaws.{text_total, text_exact}
use Rattle.terms.specs.DataSet.{in_named}
use Rattle.canonical_nquads.specs.Canonical.{quad_text, graph_line, is_empty_graph, lines_of, ended, canonical}

pub any-map : {A B : Type 0} (p : B → Bool) (f : A → B) (xs : List A) → list_any p (map f xs) ≡ list_any (λ x. p (f x)) xs
any-map p f [] = refl
any-map p f (x ∷ xs) = ap (λ b. p (f x) || b) (any-map p f xs)

-- whether a text is among the lines
has-lines : (quads : List (Quad Term)) (names : List Term) (tag : ℕ) (t : List ℕ) → has text_cmp (lines_of quads names tag) t
    ≡ (list_any (λ q. eq_by_cmp text_cmp t (quad_text tag q)) quads || list_any (λ g. is_empty_graph quads g && eq_by_cmp text_cmp t (graph_line tag g)) names)
has-lines quads names tag t =
    let e : List ℕ → Bool = eq_by_cmp text_cmp t in
    list_any-append e (map (quad_text tag) quads) (map (graph_line tag) (filter (is_empty_graph quads) names))
    ∙ (λ i. any-map e (quad_text tag) quads i || (any-map e (graph_line tag) (filter (is_empty_graph quads) names) ∙ any-filter (λ g. e (graph_line tag g)) (is_empty_graph quads) names) i)

-- by the laws of sets and of names
module _
    (alike_quads : (test : Quad Term → Bool) (quads : List (Quad Term)) → list_any test (set_of (quad_order term_order) quads) ≡ list_any test quads)
    (alike_names : (test : Term → Bool) (names : List Term) → list_any test (set_of term_order names) ≡ list_any test names)
    (named : (name : Term) (quads : List (Quad Term)) → has term_order (names_of quads) name ≡ list_any (in_named name) quads) where
  same_names : (g : Term) (qs : List (Quad Term)) → has term_order (names_of (set_of (quad_order term_order) qs)) g ≡ has term_order (names_of qs) g
  same_names g qs = named g (set_of (quad_order term_order) qs) ∙ alike_quads (in_named g) qs ∙ sym (named g qs)

  same_lines : (quads : List (Quad Term)) (names : List Term) (tag : ℕ) (t : List ℕ)
      → has text_cmp (lines_of quads names tag) t ≡ has text_cmp (lines_of (set_of (quad_order term_order) quads) (set_of term_order names) tag) t
  same_lines quads names tag t =
      let e : List ℕ → Bool = eq_by_cmp text_cmp t in
      has-lines quads names tag t
      ∙ sym (has-lines (set_of (quad_order term_order) quads) (set_of term_order names) tag t
      ∙ (λ i. alike_quads (λ q. e (quad_text tag q)) quads i
      || (alike_names (λ g. is_empty_graph (set_of (quad_order term_order) quads) g && e (graph_line tag g)) names
      ∙ (λ j. list_any (λ g. not (same_names g quads j) && e (graph_line tag g)) names)) i))

  pub canonical_is : (d : Dataset Term) (quads : List (Quad Term)) (names : List Term) (tag : ℕ) → set_of (quad_order term_order) quads ≡ d.quads → set_of term_order names ≡ d.names
      → flat_map ended (set_of text_cmp (lines_of quads names tag)) ≡ canonical d tag
  canonical_is d quads names tag q n =
      ap (flat_map ended)
      (same_set text_total text_exact _ _ (sorted-set_of text_total (lines_of quads names tag))
      (sorted-set_of text_total (lines_of (set_of (quad_order term_order) quads) (set_of term_order names) tag))
      (λ t. has-set_of text_total t (lines_of quads names tag) ∙ same_lines quads names tag t
      ∙ sym (has-set_of text_total t (lines_of (set_of (quad_order term_order) quads) (set_of term_order names) tag))))
      ∙ (λ i. flat_map ended (set_of text_cmp (lines_of (q i) (n i) tag)))
