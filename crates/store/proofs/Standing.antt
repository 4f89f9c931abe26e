-- The numbers of a dataset are a dataset.
use Rattle.std.proofs.Common.{◌≡◌, ℕ, Bool, true, List, [], ◌∷◌, map, refl, sym, ap, ◌∙◌, subst}
use Rattle.std.specs.Prelude.{◌||◌}
use Rattle.std.specs.List.{list_all}
use Rattle.std.specs.Ordering.{is_eq}
use Rattle.std.specs.declared.cmp.Ordering.{Ordering}
use Rattle.std.specs.declared.cmp.Ordering.TheVariants.{Less, Equal, Greater}
use Rattle.std.proofs.lemmas.Bool.{and_parts, and_from, false≢true}
use Rattle.sets.specs.Sets.{set_of, has}
use Rattle.sets.proofs.SetLaws.{sorted-set_of}
use Rattle.terms.specs.Term.{term_order}
use Rattle.terms.specs.DataSet.{dataset_of}
use Rattle.terms.specs.declared.term.Term.{Term}
use Rattle.datasets.specs.declared.id.Id.{Id}
use Rattle.datasets.specs.declared.quad.Quad.{Quad}
use Rattle.datasets.specs.Dataset.{Dataset, IsDataset, quad_order, names_of}
use Rattle.datasets.specs.Id.{id_order, id_total, id_exact, quad_total}
use Rattle.dict.specs.Dictionary.{IsDictionary, term_of, is_known, written, numbers}
use Rattle.meaning_laws.specs.Renaming.{IsRenaming, renamed, renamed_quad, quad_known, dataset_known}
use Rattle.meaning_laws.proofs.RenamedSets.{all-set_of, map-set_of, has-map, quad-order, map-names_of, all-names_of}
use Rattle.canonical_nquads.specs.Tag.{IsTagOf}
use Rattle.store.specs.Base.{IsBaseOf}

-- a member of a list of known values is known
known_member : {A : Type 0} (R : A → A → Ordering) (exact : (x y : A) → R x y ≡ Equal → x ≡ y) (k : A → Bool) (g : A) (xs : List A) → list_all k xs ≡ true → has R xs g ≡ true → k g ≡ true
known_member R exact k g [] h m = absurd (false≢true m)
known_member R exact k g (x ∷ xs) h m =
    let parts = and_parts (k x) (list_all k xs) h in
    cases parts.0 (λ rest. known_member R exact k g xs parts.1 rest) (R g x) refl
  where
    cases : k x ≡ true → (has R xs g ≡ true → k g ≡ true) → (r : Ordering) → R g x ≡ r → k g ≡ true
    cases first further Equal e = ap k (exact g x e) ∙ first
    cases first further Less e = further (sym (ap (λ o. is_eq o || has R xs g) e) ∙ m)
    cases first further Greater e = further (sym (ap (λ o. is_eq o || has R xs g) e) ∙ m)

-- the dataset of these quads and names
abbrev numbers_of : List (Quad Id) → List Id → Dataset Id
numbers_of quads names = record { quads = set_of (quad_order id_order) quads; names = set_of id_order names }

module _ (terms : List Term) (renaming : IsRenaming (numbers terms) written (term_of terms) (is_known terms)) (ids : List (Quad Id)) (names : List Id)
    (known : list_all (quad_known (is_known terms)) ids ≡ true) (names_known : list_all (is_known terms) names ≡ true) where
  order : (x y : Id) → is_known terms x ≡ true → is_known terms y ≡ true → term_order (term_of terms x) (term_of terms y) ≡ id_order x y
  order = renaming.order

  quads-order : (a b : Quad Id) → quad_known (is_known terms) a ≡ true → quad_known (is_known terms) b ≡ true
      → quad_order term_order (renamed_quad (term_of terms) a) (renamed_quad (term_of terms) b) ≡ quad_order id_order a b
  quads-order = quad-order id_order term_order (term_of terms) (is_known terms) order

  pub renamed_is : renamed (term_of terms) (numbers_of ids names) ≡ dataset_of (map (renamed_quad (term_of terms)) ids) (map (term_of terms) names)
  renamed_is =
      let quads = map-set_of (quad_order id_order) (quad_order term_order) (renamed_quad (term_of terms)) (quad_known (is_known terms)) quads-order ids known in
      let named = map-set_of id_order term_order (term_of terms) (is_known terms) order names names_known in
      λ i. record { quads = quads i; names = named i }

  quads_known : list_all (quad_known (is_known terms)) (set_of (quad_order id_order) ids) ≡ true
  quads_known = all-set_of (quad_order id_order) (quad_order term_order) (renamed_quad (term_of terms)) (quad_known (is_known terms)) quads-order ids known

  set_known : list_all (is_known terms) (set_of id_order names) ≡ true
  set_known = all-set_of id_order term_order (term_of terms) (is_known terms) order names names_known

  pub all_known : dataset_known (is_known terms) (numbers_of ids names) ≡ true
  all_known = and_from (list_all (quad_known (is_known terms)) (set_of (quad_order id_order) ids)) (list_all (is_known terms) (set_of id_order names)) quads_known set_known

  -- what is named at terms is named at numbers
  pub is_dataset : IsDataset term_order (renamed (term_of terms) (numbers_of ids names)) → IsDataset id_order (numbers_of ids names)
  is_dataset d = record {
    quads = sorted-set_of (quad_total id_total) ids;
    names = sorted-set_of id_total names;
    named = λ g m.
        let quads = set_of (quad_order id_order) ids in
        let all = all-names_of id_order term_order (term_of terms) (is_known terms) order quads quads_known in
        let g_known : is_known terms g ≡ true = known_member id_order id_exact (is_known terms) g (names_of quads) all m in
        let at_terms : has term_order (names_of (map (renamed_quad (term_of terms)) quads)) (term_of terms g) ≡ true =
        sym (ap (λ (ns : List Term). has term_order ns (term_of terms g)) (map-names_of id_order term_order (term_of terms) (is_known terms) order quads))
        ∙ has-map id_order term_order (term_of terms) (is_known terms) order (names_of quads) g all g_known ∙ m in
        sym (has-map id_order term_order (term_of terms) (is_known terms) order (set_of id_order names) g set_known g_known)
        ∙ d.named (term_of terms g) at_terms;
  }

pub base_of : (d : Dataset Term) (terms : List Term) (base : Dataset Id) (tag : ℕ) (quads : List (Quad Term)) (names : List Term) (ids : List (Quad Id)) (places : List Id)
    → IsDictionary terms → IsRenaming (numbers terms) written (term_of terms) (is_known terms) → IsDataset term_order d → set_of (quad_order term_order) quads ≡ d.quads → set_of term_order names ≡ d.names
    → map (renamed_quad (term_of terms)) ids ≡ quads → list_all (quad_known (is_known terms)) ids ≡ true
    → map (term_of terms) places ≡ names → list_all (is_known terms) places ≡ true
    → base.quads ≡ set_of (quad_order id_order) ids → base.names ≡ set_of id_order places → IsTagOf d tag
    → IsBaseOf d (record { terms = terms; dataset = base; tag = tag })
base_of d terms base tag quads names ids places dictionary renaming is_d quads_are names_are ids_are ids_known places_are places_known base_quads base_names tag_is =
    let base_made : base ≡ numbers_of ids places = λ i. record { quads = base_quads i; names = base_names i } in
    let d_is : renamed (term_of terms) (numbers_of ids places) ≡ d =
    renamed_is terms renaming ids places ids_known places_known
    ∙ (λ i. record { quads = (ap (λ (qs : List (Quad Term)). set_of (quad_order term_order) qs) ids_are ∙ quads_are) i; names = (ap (λ (ns : List Term). set_of term_order ns) places_are ∙ names_are) i }) in
    let at_terms : IsDataset term_order (renamed (term_of terms) (numbers_of ids places)) = subst (λ (e : Dataset Term). IsDataset term_order e) (sym d_is) is_d in
    record {
      dictionary = dictionary;
      dataset_is = ap (λ (b : Dataset Id). renamed (term_of terms) b) base_made ∙ d_is;
      known = ap (λ (b : Dataset Id). dataset_known (is_known terms) b) base_made ∙ all_known terms renaming ids places ids_known places_known;
      dataset = subst (λ (b : Dataset Id). IsDataset id_order b) (sym base_made) (is_dataset terms renaming ids places ids_known places_known at_terms);
      tag_is = tag_is;
    }
