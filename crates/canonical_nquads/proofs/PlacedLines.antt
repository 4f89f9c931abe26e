-- The lines of quads and names by places are those of the quads and names there.
use Rattle.std.specs.Prelude.{ℕ, Bool, ◌==◌, ◌||◌, ◌&&◌, nat_lt, not, map, filter, cond}
use Rattle.std.proofs.Common.{◌≡◌, true, false, List, [], ◌∷◌, ◌++◌, length, Option, Some, None, refl, sym, ap, ◌∙◌}
use Rattle.std.specs.List.{list_any, list_all}
use Rattle.std.specs.Option.{option_map}
use Rattle.std.specs.Ordering.{eq_by_cmp, is_eq}
use Rattle.std.specs.Cmp.{tied_itself, both_ways}
use Rattle.std.proofs.lemmas.Bool.{false≢true, and_parts, ltb-true, eqb-true, eq-eqb}
use Rattle.std.proofs.lemmas.List.{length-map, get_or-map}
use Rattle.sets.specs.Sets.{has}
use Rattle.datasets.specs.declared.quad.Quad.{Quad}
use Rattle.datasets.specs.Dataset.{names_of}
use Rattle.terms.specs.declared.term.Term.{Term}
use Rattle.terms.specs.declared.term.Term.TheVariants as term
use Rattle.terms.specs.Term.{term_order}
use Rattle.terms.specs.TermLaws.{term_total}
use Rattle.terms.specs.Hashed.{equal_terms}
use Rattle.terms.specs.Canonical.{term_text}
use Rattle.terms.specs.DataSet.{is_named, in_named}
use Rattle.terms.specs.Placed.{term_at, quad_at, is_within, is_name_within, is_quad_within, AreApart}
use Rattle.canonical_nquads.specs.Canonical.{graph_text, quad_text, graph_line, is_empty_graph, lines_of}
use Rattle.canonical_nquads.specs.Placed.{text_at, graph_text_at, quad_text_at, graph_line_at, is_name_at, is_in_at}

kept_alike : {A B C : Type 0} (f : A → C) (g : B → C) (b c : Bool) (x : A) (y : B) (xs : List A) (ys : List B) → b ≡ c → f x ≡ g y → map f xs ≡ map g ys
    → map f (cond b (x ∷ xs) xs) ≡ map g (cond c (y ∷ ys) ys)
kept_alike f g true true x y xs ys e h t = λ i. h i ∷ t i
kept_alike f g false false x y xs ys e h t = t
kept_alike f g true false x y xs ys e h t = absurd (false≢true (sym e))
kept_alike f g false true x y xs ys e h t = absurd (false≢true e)

module _ (terms : List Term) (tag : ℕ) where
  abbrev pub texts : List (List ℕ)
  texts = map (term_text tag) terms

  text_is : (p : ℕ) → is_within terms p ≡ true → text_at texts p ≡ term_text tag (term_at terms p)
  text_is p h = get_or-map (term_text tag) terms p (term.Made 0 0 0 0) [] (ltb-true p (length terms) h)

  graph_is : (n : Option ℕ) → is_name_within terms n ≡ true → graph_text_at texts n ≡ graph_text tag (option_map (term_at terms) n)
  graph_is None h = refl
  graph_is (Some p) h = ap (λ t. 32 ∷ t) (text_is p h)

  line_is : (q : Quad ℕ) → is_quad_within terms q ≡ true → quad_text_at texts q ≡ quad_text tag (quad_at terms q)
  line_is q h =
      let s = and_parts (is_within terms q.subject) _ h in
      let p = and_parts (is_within terms q.predicate) _ s.1 in
      let o = and_parts (is_within terms q.object) _ p.1 in
      let es = text_is q.subject s.0 in
      let ep = text_is q.predicate p.0 in
      let eo = text_is q.object o.0 in
      let eg = graph_is q.graph o.1 in
      λ i. es i ++ 32 ∷ ep i ++ 32 ∷ eo i ++ eg i ++ 32 ∷ 46 ∷ []

  pub quad_lines_are : (quads : List (Quad ℕ)) → list_all (is_quad_within terms) quads ≡ true → map (quad_text_at texts) quads ≡ map (quad_text tag) (map (quad_at terms) quads)
  quad_lines_are [] h = refl
  quad_lines_are (q ∷ qs) h =
      let parts = and_parts (is_quad_within terms q) _ h in
      let first = line_is q parts.0 in
      let rest = quad_lines_are qs parts.1 in
      λ i. first i ∷ rest i

  -- the texts have the places of the terms
  within_is : (p : ℕ) → is_within texts p ≡ is_within terms p
  within_is p = ap (nat_lt p) (length-map terms (term_text tag))

  name_within_is : (n : Option ℕ) → is_name_within texts n ≡ is_name_within terms n
  name_within_is None = refl
  name_within_is (Some p) = within_is p

  pub quads_within : (quads : List (Quad ℕ)) → list_all (is_quad_within texts) quads ≡ list_all (is_quad_within terms) quads
  quads_within [] = refl
  quads_within (q ∷ qs) =
      λ i. (within_is q.subject i && (within_is q.predicate i && (within_is q.object i && name_within_is q.graph i))) && quads_within qs i

  pub names_within : (names : List ℕ) → list_all (is_within texts) names ≡ list_all (is_within terms) names
  names_within [] = refl
  names_within (n ∷ ns) = λ i. within_is n i && names_within ns i

  module _ (apart : AreApart terms) where
    name_is : (p : ℕ) (n : Option ℕ) → is_within terms p ≡ true → is_name_within terms n ≡ true → is_name_at p n ≡ is_named (term_at terms p) (option_map (term_at terms) n)
    name_is p None hp hn = refl
    name_is p (Some n) hp hn =
        both_ways (p == n) (eq_by_cmp term_order (term_at terms p) (term_at terms n))
        (λ e. ap (λ m. eq_by_cmp term_order (term_at terms p) (term_at terms m)) (sym (eqb-true p n e)) ∙ ap is_eq (tied_itself term_total (term_at terms p)))
        (λ e. eq-eqb p n (apart p n hp hn (equal_terms (term_at terms p) (term_at terms n) e)))

    in_is : (p : ℕ) → is_within terms p ≡ true → (quads : List (Quad ℕ)) → list_all (is_quad_within terms) quads ≡ true
        → list_any (is_in_at p) quads ≡ list_any (in_named (term_at terms p)) (map (quad_at terms) quads)
    in_is p hp [] h = refl
    in_is p hp (q ∷ qs) h =
        let parts = and_parts (is_quad_within terms q) _ h in
        let s = and_parts (is_within terms q.subject) _ parts.0 in
        let r = and_parts (is_within terms q.predicate) _ s.1 in
        let o = and_parts (is_within terms q.object) _ r.1 in
        let first = name_is p q.graph hp o.1 in
        let rest = in_is p hp qs parts.1 in
        λ i. first i || rest i

    module _ (named : (name : Term) (quads : List (Quad Term)) → has term_order (names_of quads) name ≡ list_any (in_named name) quads)
        (quads : List (Quad ℕ)) (h : list_all (is_quad_within terms) quads ≡ true)
        (full : ℕ → Bool) (full_is : (p : ℕ) → full p ≡ list_any (is_in_at p) quads) where
      empty_is : (p : ℕ) → is_within terms p ≡ true → not (full p) ≡ is_empty_graph (map (quad_at terms) quads) (term_at terms p)
      empty_is p hp = ap not (full_is p ∙ in_is p hp quads h ∙ sym (named (term_at terms p) (map (quad_at terms) quads)))

      graph_lines_are : (names : List ℕ) → list_all (is_within terms) names ≡ true
          → map (graph_line_at texts) (filter (λ p. not (full p)) names) ≡ map (graph_line tag) (filter (is_empty_graph (map (quad_at terms) quads)) (map (term_at terms) names))
      graph_lines_are [] hn = refl
      graph_lines_are (n ∷ ns) hn =
          let parts = and_parts (is_within terms n) _ hn in
          kept_alike (graph_line_at texts) (graph_line tag) (not (full n)) (is_empty_graph (map (quad_at terms) quads) (term_at terms n)) n (term_at terms n)
          (filter (λ p. not (full p)) ns) (filter (is_empty_graph (map (quad_at terms) quads)) (map (term_at terms) ns))
          (empty_is n parts.0) (ap (λ t. 35 ∷ 64 ∷ 103 ∷ 114 ∷ 97 ∷ 112 ∷ 104 ∷ 32 ∷ t) (text_is n parts.0)) (graph_lines_are ns parts.1)

      pub lines_are : (names : List ℕ) → list_all (is_within terms) names ≡ true
          → map (quad_text_at texts) quads ++ map (graph_line_at texts) (filter (λ p. not (full p)) names) ≡ lines_of (map (quad_at terms) quads) (map (term_at terms) names) tag
      lines_are names hn = λ i. quad_lines_are quads h i ++ graph_lines_are names hn i
