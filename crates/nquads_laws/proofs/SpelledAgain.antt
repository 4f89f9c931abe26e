-- The canonical text of a dataset spells it, with each made node by its label.
use Rattle.std.specs.Prelude.{ℕ, ◌||◌, map, filter}
use Rattle.std.proofs.Common.{◌≡◌, true, List, [], ◌∷◌, ◌++◌, Option, Some, None, refl, sym, ap, ◌∙◌, subst, append_assoc, inl, inr}
use Rattle.std.specs.List.{list_all, flat_map, AllByRecursion}
use Rattle.std.specs.Option.{ForSome, option_map, option_to_list}
use Rattle.std.specs.declared.cmp.Ordering.{Ordering}
use Rattle.std.specs.declared.cmp.Ordering.TheVariants.{Equal}
use Rattle.std.specs.Ordering.{eq_by_cmp}
use Rattle.std.specs.Cmp.{IsTotalOrder}
use Rattle.std.proofs.lemmas.Bool.{or_cases, or_left, or_right, cases_Bool, not_from_false}
use Rattle.std.proofs.lemmas.List.{append-nil}
use Rattle.std.proofs.lemmas.List.Elements.{recursion_from_All}
use Rattle.std.proofs.lemmas.Str.{IsUtf8-nil}
use Rattle.std.proofs.lemmas.List.Folds.{list_any-append}
use Rattle.sets.specs.Sets.{set_of, has}
use Rattle.sets.proofs.SetLaws.{has-set_of, exact_by}
use Rattle.sets.proofs.Every.{all_weaker, all_joined, all_front, all_back, all_map, all_of_map, all_flat_map, all_of_flat_map, all_kept, all_set_of}
use Rattle.datasets.specs.declared.quad.Quad.{Quad}
use Rattle.datasets.specs.Dataset.{Dataset, IsDataset, quad_order, names_of}
use Rattle.datasets.specs.Id.{quad_exact, quad_total}
use Rattle.terms.specs.declared.term.Term.{Term}
use Rattle.terms.specs.Term.{term_order, text_cmp}
use Rattle.terms.specs.TermLaws.{term_total, term_exact, text_total, text_exact}
use Rattle.nquads_lines.specs.declared.stop.Line.{Line}
use Rattle.nquads_lines.specs.declared.stop.Line.TheVariants.{Nothing, Graph, Statement}
use Rattle.nquads_lines.specs.Lines.{lines, is_inner}
use Rattle.nquads_lines.specs.Line.{at_end, nothing, IsLine}
use Rattle.nquads.specs.Spelled.{AreLines, none, more, stated, declared, Spells}
use Rattle.canonical_nquads.specs.Canonical.{quad_text, graph_line, is_empty_graph, lines_of, ended, canonical}
use Rattle.nquads_laws.specs.WellFormed.{IsIriTerm, IsQuad, IsWellFormed}
use Rattle.nquads_laws.specs.Named.{named_term, named_quad, named}
use Rattle.nquads_laws.proofs.Members.{all_both, all_of_kept, among, all_members, same_sets}
use Rattle.nquads_laws.proofs.LineTexts.{IsWhole, whole_quad, whole_graph, iri_of}

pub quads_total : IsTotalOrder (quad_order term_order)
quads_total = quad_total term_total

pub quads_exact : (x y : Quad Term) → quad_order term_order x y ≡ Equal → x ≡ y
quads_exact = quad_exact term_order term_exact

-- ---- what one line adds

abbrev pub quads_said : Line → List (Quad Term)
quads_said Nothing = []
quads_said (Graph g) = []
quads_said (Statement q) = q ∷ []

abbrev pub names_said : Line → List Term
names_said Nothing = []
names_said (Graph g) = g ∷ []
names_said (Statement q) = option_to_list q.graph

pub stated-is : (said : List Line) → stated said ≡ flat_map quads_said said
stated-is [] = refl
stated-is (Nothing ∷ rest) = stated-is rest
stated-is (Graph g ∷ rest) = stated-is rest
stated-is (Statement q ∷ rest) = ap (λ (qs : List (Quad Term)). q ∷ qs) (stated-is rest)

pub declared-is : (said : List Line) → declared said ≡ flat_map names_said said
declared-is [] = refl
declared-is (Nothing ∷ rest) = declared-is rest
declared-is (Graph g ∷ rest) = ap (λ (gs : List Term). g ∷ gs) (declared-is rest)
declared-is (Statement q ∷ rest) = ap (λ (gs : List Term). option_to_list q.graph ++ gs) (declared-is rest)

-- the names of quads' graphs, quad by quad
abbrev name_in : Quad Term → List Term
name_in q = option_to_list q.graph

names_step : (q : Quad Term) (qs : List (Quad Term)) (n : Option Term) → q.graph ≡ n → names_of qs ≡ flat_map name_in qs → names_of (q ∷ qs) ≡ flat_map name_in (q ∷ qs)
names_step q qs None e h = rw e h
names_step q qs (Some g) e h = rw e (ap (λ (gs : List Term). g ∷ gs) h)

pub names_of-is : (qs : List (Quad Term)) → names_of qs ≡ flat_map name_in qs
names_of-is [] = refl
names_of-is (q ∷ qs) = names_step q qs q.graph refl (names_of-is qs)

-- ---- names stay as they are

iri_named : (tag : ℕ) (t : Term) → IsIriTerm t → named_term tag t ≡ t
iri_named tag t is = let i = iri_of t is in rw (i.same) refl

pub names_named : (tag : ℕ) (names : List Term) → AllByRecursion IsIriTerm names → map (named_term tag) names ≡ names
names_named tag [] each = refl
names_named tag (t ∷ names) each =
    let first : named_term tag t ≡ t = iri_named tag t each.0 in
    let rest : map (named_term tag) names ≡ names = names_named tag names each.1 in
    λ i. first i ∷ rest i

pub graph_named : (tag : ℕ) (g : Option Term) → ForSome g IsIriTerm → option_map (named_term tag) g ≡ g
graph_named tag None is = refl
graph_named tag (Some t) is = ap (λ (t : Term). Some t) (iri_named tag t (is t refl))

name_named : (tag : ℕ) (q : Quad Term) → IsQuad q → names_said (Statement (named_quad tag q)) ≡ name_in q
name_named tag q is = ap (λ (g : Option Term). option_to_list g) (graph_named tag q.graph is.graph)

-- ---- what lines say

empty_line : IsLine [] Nothing
empty_line = record { utf8 = IsUtf8-nil; says = nothing (at_end (record { blanks = []; cut = refl; each = refl })) refl }

-- the dataset of these lines
abbrev dataset_said : List Line → Dataset Term
dataset_said said = record { quads = set_of (quad_order term_order) (stated said); names = set_of term_order (declared said) }

-- a line that says of a dataset what is in it
record Tells (quads : List (Quad Term)) (names : List Term) (line : List ℕ) : Type 0 where
  said : Line
  whole : IsWhole line said
  each_quad : AllByRecursion (λ q. has (quad_order term_order) quads q ≡ true) (quads_said said)
  each_name : AllByRecursion (λ g. has term_order names g ≡ true) (names_said said)

module _ (quads : List (Quad Term)) (names : List Term) where
  abbrev said_by : (ls : List (List ℕ)) → AllByRecursion (Tells quads names) ls → List Line
  said_by [] tell = Nothing ∷ []
  said_by (l ∷ ls) tell = let first = tell.0 in first.said ∷ said_by ls tell.1

  quads_of_lines : (ls : List (List ℕ)) (tell : AllByRecursion (Tells quads names) ls) → AllByRecursion (λ q. has (quad_order term_order) quads q ≡ true) (flat_map quads_said (said_by ls tell))
  quads_of_lines [] tell = tt
  quads_of_lines (l ∷ ls) tell =
      let first = tell.0 in
      all_joined (λ q. has (quad_order term_order) quads q ≡ true) (quads_said first.said) (flat_map quads_said (said_by ls tell.1)) first.each_quad (quads_of_lines ls tell.1)

  names_of_lines : (ls : List (List ℕ)) (tell : AllByRecursion (Tells quads names) ls) → AllByRecursion (λ g. has term_order names g ≡ true) (flat_map names_said (said_by ls tell))
  names_of_lines [] tell = tt
  names_of_lines (l ∷ ls) tell =
      let first = tell.0 in
      all_joined (λ g. has term_order names g ≡ true) (names_said first.said) (flat_map names_said (said_by ls tell.1)) first.each_name (names_of_lines ls tell.1)

  -- what a line among these says is said
  module _ {A : Type 0} {R : A → A → Ordering} (o : IsTotalOrder R) (part : Line → List A)
      (same : (line : List ℕ) (said other : Line) → IsWhole line said → IsWhole line other → set_of R (part said) ≡ set_of R (part other)) where
    reached : (ls : List (List ℕ)) (tell : AllByRecursion (Tells quads names) ls) (l : List ℕ) (other : Line) → IsWhole l other → has text_cmp ls l ≡ true
        → (x : A) → has R (part other) x ≡ true → has R (flat_map part (said_by ls tell)) x ≡ true
    reached [] tell l other is e x h = absurd cc
    reached (y ∷ ls) tell l other is e x h =
        let first = tell.0 in
        let later : List A = flat_map part (said_by ls tell.1) in
        list_any-append (eq_by_cmp R x) (part first.said) later
        ∙ elim (or_cases (eq_by_cmp text_cmp l y) (has text_cmp ls l) e) as (λ _. (has R (part first.said) x || has R later x) ≡ true) [
          | inl k ↦
              let other_here : IsWhole y other = subst (λ (line : List ℕ). IsWhole line other) (exact_by text_total text_exact l y k) is in
              or_left (has R (part first.said) x) (has R later x)
              (sym (has-set_of o x (part first.said)) ∙ ap (λ (xs : List A). has R xs x) (same y first.said other first.whole other_here) ∙ has-set_of o x (part other) ∙ h)
          | inr k ↦ or_right (has R (part first.said) x) (has R later x) (reached ls tell.1 l other is k x h)
        ]

-- ---- by the laws of lines and of one dataset

module _
    (ended_first : (line rest : List ℕ) → list_all is_inner line ≡ true → lines (line ++ 10 ∷ rest) ≡ line ∷ lines rest)
    (one_dataset : (text : List ℕ) (d e : Dataset Term) → Spells text d → Spells text e → d ≡ e) where
  lines_ended : (line rest : List ℕ) (said : Line) → IsWhole line said → lines (ended line ++ rest) ≡ line ∷ lines rest
  lines_ended line rest said is = ap lines (append_assoc line (10 ∷ []) rest) ∙ ended_first line rest is.inner

  -- a line alone
  alone : (line : List ℕ) (said : Line) → IsWhole line said → Spells (line ++ 10 ∷ []) (dataset_said (said ∷ Nothing ∷ []))
  alone line said is = record {
    said = said ∷ Nothing ∷ [];
    each = subst (λ (ls : List (List ℕ)). AreLines ls (said ∷ Nothing ∷ [])) (sym (ended_first line [] is.inner)) (more is.is (more empty_line none));
    quads = refl;
    names = refl;
  }

  same_said : (line : List ℕ) (said other : Line) → IsWhole line said → IsWhole line other → dataset_said (said ∷ Nothing ∷ []) ≡ dataset_said (other ∷ Nothing ∷ [])
  same_said line said other a b = one_dataset (line ++ 10 ∷ []) (dataset_said (said ∷ Nothing ∷ [])) (dataset_said (other ∷ Nothing ∷ [])) (alone line said a) (alone line other b)

  quads_alone : (said : Line) → stated (said ∷ Nothing ∷ []) ≡ quads_said said
  quads_alone said = stated-is (said ∷ Nothing ∷ []) ∙ append-nil (quads_said said)

  names_alone : (said : Line) → declared (said ∷ Nothing ∷ []) ≡ names_said said
  names_alone said = declared-is (said ∷ Nothing ∷ []) ∙ append-nil (names_said said)

  same_quads : (line : List ℕ) (said other : Line) → IsWhole line said → IsWhole line other → set_of (quad_order term_order) (quads_said said) ≡ set_of (quad_order term_order) (quads_said other)
  same_quads line said other a b =
      ap (set_of (quad_order term_order)) (sym (quads_alone said)) ∙ ap (λ (d : Dataset Term). d.quads) (same_said line said other a b) ∙ ap (set_of (quad_order term_order)) (quads_alone other)

  same_names : (line : List ℕ) (said other : Line) → IsWhole line said → IsWhole line other → set_of term_order (names_said said) ≡ set_of term_order (names_said other)
  same_names line said other a b =
      ap (set_of term_order) (sym (names_alone said)) ∙ ap (λ (d : Dataset Term). d.names) (same_said line said other a b) ∙ ap (set_of term_order) (names_alone other)

  all_lines : (quads : List (Quad Term)) (names : List Term) (ls : List (List ℕ)) (tell : AllByRecursion (Tells quads names) ls) → AreLines (lines (flat_map ended ls)) (said_by quads names ls tell)
  all_lines quads names [] tell = more empty_line none
  all_lines quads names (l ∷ ls) tell =
      let first = tell.0 in
      subst (λ (all : List (List ℕ)). AreLines all (first.said ∷ said_by quads names ls tell.1)) (sym (lines_ended l (flat_map ended ls) first.said first.whole))
      (let is = first.whole in more is.is (all_lines quads names ls tell.1))

  -- ---- the lines of a well-formed dataset

  module _ (d : Dataset Term) (tag : ℕ) (quads : AllByRecursion IsQuad d.quads) (names : AllByRecursion IsIriTerm d.names) (is : IsDataset term_order d) where
    abbrev made : List (Quad Term)
    made = map (named_quad tag) d.quads

    abbrev empties : List Term
    empties = filter (is_empty_graph d.quads) d.names

    abbrev texts : List (List ℕ)
    texts = lines_of d.quads d.names tag

    abbrev all : List (List ℕ)
    all = set_of text_cmp texts

    -- the name of each quad's graph is a name
    name_there : AllByRecursion (λ q. AllByRecursion (λ g. has term_order d.names g ≡ true) (name_in q)) d.quads
    name_there =
        all_of_flat_map (λ g. has term_order d.names g ≡ true) name_in d.quads
        (subst (AllByRecursion (λ g. has term_order d.names g ≡ true)) (names_of-is d.quads)
        (all_weaker (λ g. has term_order (names_of d.quads) g ≡ true) (λ g. has term_order d.names g ≡ true) is.named (names_of d.quads) (all_members term_total term_exact (names_of d.quads))))

    quad_tells : (q : Quad Term) → IsQuad q → has (quad_order term_order) made (named_quad tag q) ≡ true → AllByRecursion (λ g. has term_order d.names g ≡ true) (name_in q)
        → Tells made d.names (quad_text tag q)
    quad_tells q is there name = record {
      said = Statement (named_quad tag q);
      whole = whole_quad tag q is;
      each_quad = (there, tt);
      each_name = subst (AllByRecursion (λ g. has term_order d.names g ≡ true)) (sym (name_named tag q is)) name;
    }

    graph_tells : (g : Term) → IsIriTerm g → has term_order d.names g ≡ true → Tells made d.names (graph_line tag g)
    graph_tells g is there = record { said = Graph g; whole = whole_graph tag g is; each_quad = tt; each_name = (there, tt) }

    each_tells : AllByRecursion (Tells made d.names) texts
    each_tells =
        all_joined (Tells made d.names) (map (quad_text tag) d.quads) (map (graph_line tag) empties)
        (all_map (Tells made d.names) (quad_text tag) d.quads
        (all_both IsQuad (λ q. (has (quad_order term_order) made (named_quad tag q) ≡ true) × AllByRecursion (λ g. has term_order d.names g ≡ true) (name_in q))
        (λ q. Tells made d.names (quad_text tag q)) (λ q is h. quad_tells q is h.0 h.1) d.quads quads
        (all_both (λ q. has (quad_order term_order) made (named_quad tag q) ≡ true) (λ q. AllByRecursion (λ g. has term_order d.names g ≡ true) (name_in q))
        (λ q. (has (quad_order term_order) made (named_quad tag q) ≡ true) × AllByRecursion (λ g. has term_order d.names g ≡ true) (name_in q)) (λ q a b. (a, b)) d.quads
        (all_of_map (λ q. has (quad_order term_order) made q ≡ true) (named_quad tag) d.quads (all_members quads_total quads_exact made)) name_there)))
        (all_map (Tells made d.names) (graph_line tag) empties
        (all_kept (λ g. Tells made d.names (graph_line tag g)) (is_empty_graph d.quads) d.names
        (all_both IsIriTerm (λ g. has term_order d.names g ≡ true) (λ g. Tells made d.names (graph_line tag g)) graph_tells d.names names (all_members term_total term_exact d.names))))

    abbrev tell : AllByRecursion (Tells made d.names) all
    tell = all_set_of (Tells made d.names) text_cmp texts each_tells

    abbrev said : List Line
    said = said_by made d.names all tell

    -- each line is written
    line_there : AllByRecursion (λ l. has text_cmp all l ≡ true) texts
    line_there = all_weaker (λ l. has text_cmp texts l ≡ true) (λ l. has text_cmp all l ≡ true) (λ l e. has-set_of text_total l texts ∙ e) texts (all_members text_total text_exact texts)

    quad_line_there : AllByRecursion (λ q. has text_cmp all (quad_text tag q) ≡ true) d.quads
    quad_line_there =
        all_of_map (λ l. has text_cmp all l ≡ true) (quad_text tag) d.quads (all_front (λ l. has text_cmp all l ≡ true) (map (quad_text tag) d.quads) (map (graph_line tag) empties) line_there)

    graph_line_there : AllByRecursion (λ g. has text_cmp all (graph_line tag g) ≡ true) empties
    graph_line_there =
        all_of_map (λ l. has text_cmp all l ≡ true) (graph_line tag) empties (all_back (λ l. has text_cmp all l ≡ true) (map (quad_text tag) d.quads) (map (graph_line tag) empties) line_there)

    -- each quad is said
    quad_said : AllByRecursion (λ q. has (quad_order term_order) (flat_map quads_said said) q ≡ true) made
    quad_said =
        all_map (λ q. has (quad_order term_order) (flat_map quads_said said) q ≡ true) (named_quad tag) d.quads
        (all_both IsQuad (λ q. has text_cmp all (quad_text tag q) ≡ true) (λ q. has (quad_order term_order) (flat_map quads_said said) (named_quad tag q) ≡ true)
        (λ q is there. reached made d.names quads_total quads_said same_quads all tell (quad_text tag q) (Statement (named_quad tag q)) (whole_quad tag q is) there (named_quad tag q)
        (let each = all_members quads_total quads_exact (named_quad tag q ∷ []) in each.0))
        d.quads quads quad_line_there)

    -- each name of a quad's graph is said, and each of a graph without quads
    names_in_said : (q : Quad Term) → IsQuad q → has text_cmp all (quad_text tag q) ≡ true → AllByRecursion (λ g. has term_order (flat_map names_said said) g ≡ true) (name_in q)
    names_in_said q is there =
        subst (AllByRecursion (λ g. has term_order (flat_map names_said said) g ≡ true)) (name_named tag q is)
        (all_weaker (λ g. has term_order (names_said (Statement (named_quad tag q))) g ≡ true) (λ g. has term_order (flat_map names_said said) g ≡ true)
        (λ g e. reached made d.names term_total names_said same_names all tell (quad_text tag q) (Statement (named_quad tag q)) (whole_quad tag q is) there g e)
        (names_said (Statement (named_quad tag q))) (all_members term_total term_exact (names_said (Statement (named_quad tag q)))))

    used_name_said : AllByRecursion (λ g. has term_order (flat_map names_said said) g ≡ true) (names_of d.quads)
    used_name_said =
        subst (AllByRecursion (λ g. has term_order (flat_map names_said said) g ≡ true)) (sym (names_of-is d.quads))
        (all_flat_map (λ g. has term_order (flat_map names_said said) g ≡ true) name_in d.quads
        (all_both IsQuad (λ q. has text_cmp all (quad_text tag q) ≡ true) (λ q. AllByRecursion (λ g. has term_order (flat_map names_said said) g ≡ true) (name_in q)) names_in_said d.quads quads quad_line_there))

    name_said_at : (g : Term) → IsIriTerm g → (is_empty_graph d.quads g ≡ true → has text_cmp all (graph_line tag g) ≡ true) → has term_order (flat_map names_said said) g ≡ true
    name_said_at g is there =
        elim (cases_Bool (has term_order (names_of d.quads) g)) as (λ _. has term_order (flat_map names_said said) g ≡ true) [
          | inl e ↦ among term_total (flat_map names_said said) (names_of d.quads) g used_name_said e
          | inr e ↦ reached made d.names term_total names_said same_names all tell (graph_line tag g) (Graph g) (whole_graph tag g is)
              (there (not_from_false (has term_order (names_of d.quads) g) e)) g (let each = all_members term_total term_exact (g ∷ []) in each.0)
        ]

    name_said : AllByRecursion (λ g. has term_order (flat_map names_said said) g ≡ true) d.names
    name_said =
        all_both IsIriTerm (λ g. is_empty_graph d.quads g ≡ true → has text_cmp all (graph_line tag g) ≡ true) (λ g. has term_order (flat_map names_said said) g ≡ true) name_said_at d.names names
        (all_of_kept (λ g. has text_cmp all (graph_line tag g) ≡ true) (is_empty_graph d.quads) d.names graph_line_there)

    spelled_lists : Spells (canonical d tag) (named d tag)
    spelled_lists = record {
      said = said;
      each = all_lines made d.names all tell;
      quads = same_sets quads_total quads_exact made (flat_map quads_said said) quad_said (quads_of_lines made d.names all tell) ∙ ap (set_of (quad_order term_order)) (sym (stated-is said));
      names = ap (set_of term_order) (names_named tag d.names names)
          ∙ same_sets term_total term_exact d.names (flat_map names_said said) name_said (names_of_lines made d.names all tell) ∙ ap (set_of term_order) (sym (declared-is said));
    }

  pub spelled_again : (d : Dataset Term) (tag : ℕ) → IsWellFormed d → Spells (canonical d tag) (named d tag)
  spelled_again d tag is = spelled_lists d tag (recursion_from_All IsQuad d.quads is.quads) (recursion_from_All IsIriTerm d.names is.names) is.dataset
