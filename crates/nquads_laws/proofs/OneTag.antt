-- Two datasets that one tag leaves apart have one text only if they are the same.
use Rattle.std.specs.Prelude.{ℕ, map}
use Rattle.std.proofs.Common.{◌≡◌, true, false, List, [], ◌∷◌, Option, Some, None, refl, sym, ap, ◌∙◌, subst, inl, inr}
use Rattle.std.specs.List.{AllByRecursion}
use Rattle.std.specs.Option.{option_map, option_to_list}
use Rattle.std.specs.declared.cmp.Ordering.{Ordering}
use Rattle.std.specs.declared.cmp.Ordering.TheVariants.{Equal}
use Rattle.std.specs.Ordering.{eq_by_cmp}
use Rattle.std.specs.Cmp.{IsTotalOrder}
use Rattle.std.proofs.lemmas.Bool.{or_cases}
use Rattle.std.proofs.lemmas.List.Elements.{recursion_from_All}
use Rattle.sets.specs.Sets.{set_of, has}
use Rattle.sets.proofs.SetLaws.{has-set_of, set_of-set, exact_by}
use Rattle.sets.proofs.Every.{all_of_map}
use Rattle.iris.specs.Runs.{RunsAreLongest}
use Rattle.datasets.specs.declared.quad.Quad.{Quad}
use Rattle.datasets.specs.Dataset.{Dataset, quad_order}
use Rattle.terms.specs.declared.term.Term.{Term}
use Rattle.terms.specs.Term.{term_order}
use Rattle.terms.specs.TermLaws.{term_total, term_exact}
use Rattle.canonical_nquads.specs.Tag.{is_taken}
use Rattle.nquads_laws.specs.WellFormed.{IsIriTerm, IsWellFormed, terms_in}
use Rattle.nquads_laws.specs.Named.{named_term, named_quad, named}
use Rattle.nquads_laws.proofs.Members.{all_both, all_members, same_sets}
use Rattle.nquads_laws.proofs.Labels.{IsFree, free_quads, terms_apart}
use Rattle.nquads_laws.proofs.SpelledAgain.{quads_total, quads_exact, names_named}

-- what follows of each element that a list's image could have come of
found : {A B C : Type 0} {R : A → A → Ordering} (o : IsTotalOrder R) (exact : (x y : A) → R x y ≡ Equal → x ≡ y) (f : B → A) (ys : List B) (z : A)
    → AllByRecursion (λ y. f y ≡ z → C) ys → has R (map f ys) z ≡ true → C
found o exact f [] z each e = absurd cc
found {C = C} {R = R} o exact f (y ∷ ys) z each e =
    elim (or_cases (eq_by_cmp R z (f y)) (has R (map f ys) z) e) as (λ _. C) [ inl h ↦ each.0 (sym (exact_by o exact z (f y) h)) | inr h ↦ found o exact f ys z each.1 h ]

abbrev AreFree : ℕ → Quad Term → Type 0
AreFree tag q = AllByRecursion (IsFree tag) (terms_in q)

module _ (runs : RunsAreLongest) where
  term_apart : (tag : ℕ) (x y : Term) → IsFree tag x → IsFree tag y → named_term tag x ≡ named_term tag y → x ≡ y
  term_apart tag x y p q e = terms_apart runs tag x y p.0 q.0 p.1 q.1 e

  graph_apart : (tag : ℕ) (g h : Option Term) → AllByRecursion (IsFree tag) (option_to_list g) → AllByRecursion (IsFree tag) (option_to_list h)
      → option_map (named_term tag) g ≡ option_map (named_term tag) h → g ≡ h
  graph_apart tag None None p q e = refl
  graph_apart tag None (Some y) p q e = absurd cc
  graph_apart tag (Some x) None p q e = absurd cc
  graph_apart tag (Some x) (Some y) p q e = ap (λ (t : Term). Some t) (term_apart tag x y p.0 q.0 (let same : named_term tag x ≡ named_term tag y = cc in same))

  quad_apart : (tag : ℕ) (x y : Quad Term) → AreFree tag x → AreFree tag y → named_quad tag x ≡ named_quad tag y → x ≡ y
  quad_apart tag x y p q e =
      let s = term_apart tag x.subject y.subject p.0 q.0 (ap (λ (q : Quad Term). q.subject) e) in
      let r = term_apart tag x.predicate y.predicate p.1.0 q.1.0 (ap (λ (q : Quad Term). q.predicate) e) in
      let o = term_apart tag x.object y.object p.1.1.0 q.1.1.0 (ap (λ (q : Quad Term). q.object) e) in
      let g = graph_apart tag x.graph y.graph p.1.1.1 q.1.1.1 (ap (λ (q : Quad Term). q.graph) e) in
      λ i. record { subject = s i; predicate = r i; object = o i; graph = g i }

  -- quads of one set are quads of another that has the same ones by their names
  quads_among : (tag : ℕ) (xs ys : List (Quad Term)) → AllByRecursion (AreFree tag) xs → AllByRecursion (AreFree tag) ys
      → set_of (quad_order term_order) (map (named_quad tag) xs) ≡ set_of (quad_order term_order) (map (named_quad tag) ys)
      → AllByRecursion (λ x. has (quad_order term_order) ys x ≡ true) xs
  quads_among tag xs ys p q e =
      let f : Quad Term → Quad Term = named_quad tag in
      all_both (AreFree tag) (λ x. has (quad_order term_order) (map f xs) (f x) ≡ true) (λ x. has (quad_order term_order) ys x ≡ true)
      (λ x free there. found quads_total quads_exact f ys (f x)
      (all_both (AreFree tag) (λ y. has (quad_order term_order) ys y ≡ true) (λ y. f y ≡ f x → has (quad_order term_order) ys x ≡ true)
      (λ y free' there' same. subst (λ (z : Quad Term). has (quad_order term_order) ys z ≡ true) (quad_apart tag y x free' free same) there') ys q (all_members quads_total quads_exact ys))
      (sym (has-set_of quads_total (f x) (map f ys)) ∙ ap (λ (zs : List (Quad Term)). has (quad_order term_order) zs (f x)) (sym e) ∙ has-set_of quads_total (f x) (map f xs) ∙ there))
      xs p (all_of_map (λ z. has (quad_order term_order) (map f xs) z ≡ true) f xs (all_members quads_total quads_exact (map f xs)))

  pub same_of_named : (d e : Dataset Term) (tag : ℕ) → IsWellFormed d → IsWellFormed e → is_taken d.quads tag ≡ false → is_taken e.quads tag ≡ false → named d tag ≡ named e tag → d ≡ e
  same_of_named d e tag p q free free' same =
      let a = free_quads tag d p free in
      let b = free_quads tag e q free' in
      let images = ap (λ (d : Dataset Term). d.quads) same in
      let rising = p.dataset in
      let rising' = q.dataset in
      let quads : d.quads ≡ e.quads =
      sym (set_of-set quads_total quads_exact d.quads rising.quads)
      ∙ same_sets quads_total quads_exact d.quads e.quads (quads_among tag d.quads e.quads a b images) (quads_among tag e.quads d.quads b a (sym images))
      ∙ set_of-set quads_total quads_exact e.quads rising'.quads in
      let names : d.names ≡ e.names =
      sym (ap (set_of term_order) (names_named tag d.names (recursion_from_All IsIriTerm d.names p.names)) ∙ set_of-set term_total term_exact d.names rising.names)
      ∙ ap (λ (d : Dataset Term). d.names) same
      ∙ (ap (set_of term_order) (names_named tag e.names (recursion_from_All IsIriTerm e.names q.names)) ∙ set_of-set term_total term_exact e.names rising'.names) in
      λ i. record { quads = quads i; names = names i }
