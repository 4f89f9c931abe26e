-- Which lists of mappings are sets.
use Rattle.std.specs.Prelude.{filter}
use Rattle.std.proofs.Common.{◌≡◌, Bool, List, [], ◌∷◌, ◌++◌, sym, subst}
use Rattle.std.proofs.lemmas.List.Kept.{IsStrictlySortedBy-filter}
use Rattle.std.specs.List.Sorted.{IsStrictlySortedBy}
use Rattle.sets.specs.Sets.{set_of}
use Rattle.sets.proofs.SetLaws.{sorted-set_of, sorted-empty, sorted-cons, set_of-set}
use Rattle.datasets.specs.declared.id.Id.{Id}
use Rattle.datasets.specs.Id.{id_order}
use Rattle.meaning.specs.Mapping.{Mapping, mapping_cmp}
use Rattle.solution.specs.MappingOrder.{mapping_total, mapping_exact}

abbrev Rises : List (Mapping Id) → Type 0
Rises xs = IsStrictlySortedBy (mapping_cmp id_order) xs

module _ (xs : List (Mapping Id)) where
  rises-is : (ys : List (Mapping Id)) → xs ≡ ys → Rises ys → Rises xs
  rises-is ys e s = subst (λ zs. Rises zs) (sym e) s

  pub rises-none : xs ≡ [] → Rises xs
  rises-none e = rises-is [] e (sorted-empty (mapping_cmp id_order))

  pub rises-one : (x : Mapping Id) → xs ≡ [] ++ x ∷ [] → Rises xs
  rises-one x e = rises-is (x ∷ []) e (sorted-cons (mapping_cmp id_order) x [] tt (sorted-empty (mapping_cmp id_order)))

  pub rises-set : (ys : List (Mapping Id)) → xs ≡ set_of (mapping_cmp id_order) ys → Rises xs
  rises-set ys e = rises-is (set_of (mapping_cmp id_order) ys) e (sorted-set_of mapping_total ys)

  pub rises-filter : (test : Mapping Id → Bool) (ys : List (Mapping Id)) → Rises ys → xs ≡ filter test ys → Rises xs
  rises-filter test ys s e = rises-is (filter test ys) e (IsStrictlySortedBy-filter (mapping_cmp id_order) test ys s)

-- a list that rises is the set of its members
pub set_of_rising : (xs : List (Mapping Id)) → Rises xs → set_of (mapping_cmp id_order) xs ≡ xs
set_of_rising xs s = set_of-set mapping_total mapping_exact xs s
