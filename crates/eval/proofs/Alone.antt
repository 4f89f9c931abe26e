-- A pattern alone in a group: its solutions are those of the group.
use Rattle.std.specs.Prelude.{Bool, true, false, cond, filter, filter_map, ◌≤◌}
use Rattle.std.specs.List.{AllByRecursion, flat_map, cons_option}
use Rattle.std.specs.List.Sorted.{IsStrictlySortedBy}
use Rattle.std.proofs.lemmas.List.Kept.{IsStrictlySortedBy-filter}
use Rattle.std.specs.declared.cmp.Ordering.{Ordering}
use Rattle.std.proofs.Common.{ℕ, zero, suc, ◌≡◌, List, [], ◌∷◌, ◌++◌, Option, Some, None, length, refl, ap, ◌∙◌, arith, append-nil}
use Rattle.std.specs.Ordering.{eq_by_cmp}
use Rattle.std.proofs.lemmas.List.{length-set, length-replicate}
use Rattle.sets.specs.Sets.{set_of, has}
use Rattle.sets.proofs.SetLaws.{sorted-set_of, set_of-set, sorted-cons, sorted-empty}
use Rattle.sets.proofs.Every.{all_joined, all_set_of, all_kept}
use Rattle.datasets.specs.declared.id.Id.{Id}
use Rattle.datasets.specs.declared.quad.Quad.{Quad}
use Rattle.datasets.specs.Dataset.{quads_in}
use Rattle.datasets.specs.Id.{id_order}
use Rattle.algebra.specs.Expressions.{Expression}
use Rattle.algebra.specs.Plans.{Plan, Basic, Join, LeftJoin, Union, Minus, Filter, InGraph}
use Rattle.algebra.specs.declared.pattern.Place.TheVariants as place
use Rattle.algebra.specs.declared.pattern.TriplePattern.{TriplePattern}
use Rattle.meaning.specs.Mapping.{Mapping, mapping_cmp, empty_mapping, merge, compatible, joined, fitted, bound_to, term_for}
use Rattle.meaning.specs.Operators.{join, diff}
use Rattle.meaning.specs.Solutions.{joined_with, solutions_among, passes_all, solutions}
use Rattle.reads.specs.Reads.{View}
use Rattle.solution.specs.MappingOrder.{mapping_total, mapping_exact}

abbrev Mappings : Type 0
Mappings = List (Mapping Id)

abbrev R : Mapping Id → Mapping Id → Ordering
R = mapping_cmp id_order

-- ---- what holds of each mapping of a set

module _ (P : Mapping Id → Type 0) where
  -- what holds of what an option has
  abbrev Holds : Option (Mapping Id) → Type 0
  Holds None = Unit {0}
  Holds (Some x) = P x

  all_cons : (o : Option (Mapping Id)) (xs : Mappings) → Holds o → AllByRecursion P xs → AllByRecursion P (cons_option o xs)
  all_cons None xs h all = all
  all_cons (Some x) xs h all = (h, all)

  all_mapped : (f : Mapping Id → Option (Mapping Id)) → ((x : Mapping Id) → Holds (f x)) → (xs : Mappings) → AllByRecursion P (filter_map f xs)
  all_mapped f h [] = tt
  all_mapped f h (x ∷ xs) = all_cons (f x) (filter_map f xs) (h x) (all_mapped f h xs)

  all_mapped_of : (f : Mapping Id → Option (Mapping Id)) → ((x : Mapping Id) → P x → Holds (f x)) → (xs : Mappings) → AllByRecursion P xs → AllByRecursion P (filter_map f xs)
  all_mapped_of f h [] all = tt
  all_mapped_of f h (x ∷ xs) all = all_cons (f x) (filter_map f xs) (h x all.0) (all_mapped_of f h xs all.1)

  all_flat : {A : Type 0} (f : A → Mappings) → ((x : A) → AllByRecursion P (f x)) → (xs : List A) → AllByRecursion P (flat_map f xs)
  all_flat f h [] = tt
  all_flat f h (x ∷ xs) = all_joined P (f x) (flat_map f xs) (h x) (all_flat f h xs)

  all_flat_of : (f : Mapping Id → Mappings) → ((x : Mapping Id) → P x → AllByRecursion P (f x)) → (xs : Mappings) → AllByRecursion P xs → AllByRecursion P (flat_map f xs)
  all_flat_of f h [] all = tt
  all_flat_of f h (x ∷ xs) all = all_joined P (f x) (flat_map f xs) (h x all.0) (all_flat_of f h xs all.1)

-- ---- no solution has more places than the pattern has variables

module _ (width : ℕ) where
  abbrev IsNarrow : Mapping Id → Type 0
  IsNarrow m = length m ≤ width

  merge_narrow : (a b : Mapping Id) → length (merge a b) ≤ length a
  merge_narrow [] b = omega arith
  merge_narrow (x ∷ a) [] = omega arith
  merge_narrow (x ∷ a) (y ∷ b) = let rest = merge_narrow a b in omega arith

  joined_narrow : (a b : Mapping Id) → IsNarrow a → (c : Bool) → Holds IsNarrow (cond c (Some (merge a b)) None)
  joined_narrow a b h true = let less = merge_narrow a b in omega arith
  joined_narrow a b h false = tt

  join_narrow : (xs ys : Mappings) → AllByRecursion IsNarrow xs → AllByRecursion IsNarrow (join id_order xs ys)
  join_narrow xs ys all =
      all_set_of IsNarrow R _ (all_flat_of IsNarrow (λ a. filter_map (joined id_order a) ys) (λ a h. all_mapped IsNarrow (joined id_order a) (λ b. joined_narrow a b h (compatible id_order a b)) ys) xs all)

  empty_narrow : IsNarrow (empty_mapping {K = Id} width)
  empty_narrow =
      let none : Option Id = None in
      let same = length-replicate width none in
      omega (arith, same)

  basic_narrow : (found : Mappings) (ts : List (TriplePattern Id)) (triples : List (Quad Id)) → AllByRecursion IsNarrow found → AllByRecursion IsNarrow (joined_with id_order width found ts triples)
  basic_narrow found [] triples all = all
  basic_narrow found (t ∷ ts) triples all = basic_narrow (join id_order found (solutions_among id_order width t triples)) ts triples (join_narrow found _ all)

  bound_narrow : (m : Mapping Id) (v : ℕ) (x : Id) (o : Option Id) → IsNarrow m → Holds IsNarrow (bound_to id_order m v x o)
  bound_narrow m v x None h = let same = length-set m v (Some x) in omega arith
  bound_narrow m v x (Some y) h = if_same (eq_by_cmp id_order x y)
    where
      if_same : (b : Bool) → Holds IsNarrow (cond b (Some m) None)
      if_same true = h
      if_same false = tt

  narrow_if : (b : Bool) (xs : Mappings) → AllByRecursion IsNarrow xs → AllByRecursion IsNarrow (cond b xs [])
  narrow_if true xs all = all
  narrow_if false xs all = tt

  sorted_if : (b : Bool) (xs : Mappings) → IsStrictlySortedBy R xs → IsStrictlySortedBy R (cond b xs [])
  sorted_if true xs s = s
  sorted_if false xs s = sorted-empty R

  module _ (passes : Expression Id → Mapping Id → Bool) where
    solved_narrow : (p : Plan Id) (d : View) (graph : Option Id) → AllByRecursion IsNarrow (solutions id_order passes width p d graph)
    solved_narrow (Basic ts) d graph = basic_narrow (empty_mapping width ∷ []) ts (quads_in id_order graph d.quads) (empty_narrow, tt)
    solved_narrow (Join a b) d graph = join_narrow _ _ (solved_narrow a d graph)
    solved_narrow (LeftJoin a b es) d graph =
        all_set_of IsNarrow R _ (all_joined IsNarrow _ _ (all_kept IsNarrow (passes_all passes es) _ (join_narrow _ _ (solved_narrow a d graph))) (all_kept IsNarrow _ _ (solved_narrow a d graph)))
    solved_narrow (Union a b) d graph = all_set_of IsNarrow R _ (all_joined IsNarrow _ _ (solved_narrow a d graph) (solved_narrow b d graph))
    solved_narrow (Minus a b) d graph = all_kept IsNarrow _ _ (solved_narrow a d graph)
    solved_narrow (Filter es a) d graph = all_kept IsNarrow (passes_all passes es) _ (solved_narrow a d graph)
    solved_narrow (InGraph (place.Term name) a) d graph = narrow_if (has id_order d.names name) _ (solved_narrow a d (Some name))
    solved_narrow (InGraph (place.Variable v) a) d graph =
        all_set_of IsNarrow R _ (all_flat IsNarrow (λ name. filter_map (fitted id_order (place.Variable v) name) (solutions id_order passes width a d (Some name)))
        (λ name. all_mapped_of IsNarrow (fitted id_order (place.Variable v) name) (λ m h. bound_narrow m v name (term_for m v) h) _ (solved_narrow a d (Some name))) d.names)

    -- ---- solutions are a set

    basic_sorted : (found : Mappings) (ts : List (TriplePattern Id)) (triples : List (Quad Id)) → IsStrictlySortedBy R found → IsStrictlySortedBy R (joined_with id_order width found ts triples)
    basic_sorted found [] triples s = s
    basic_sorted found (t ∷ ts) triples s = basic_sorted (join id_order found (solutions_among id_order width t triples)) ts triples
        (sorted-set_of mapping_total (flat_map (λ a. filter_map (joined id_order a) (solutions_among id_order width t triples)) found))

    solved_sorted : (p : Plan Id) (d : View) (graph : Option Id) → IsStrictlySortedBy R (solutions id_order passes width p d graph)
    solved_sorted (Basic ts) d graph = basic_sorted (empty_mapping width ∷ []) ts (quads_in id_order graph d.quads) (sorted-cons R (empty_mapping width) [] tt (sorted-empty R))
    solved_sorted (Join a b) d graph = sorted-set_of mapping_total (flat_map (λ m. filter_map (joined id_order m) (solutions id_order passes width b d graph)) (solutions id_order passes width a d graph))
    solved_sorted (LeftJoin a b es) d graph =
        let xs = solutions id_order passes width a d graph in
        let ys = solutions id_order passes width b d graph in
        sorted-set_of mapping_total (filter (passes_all passes es) (join id_order xs ys) ++ diff id_order (passes_all passes es) xs ys)
    solved_sorted (Union a b) d graph = sorted-set_of mapping_total (solutions id_order passes width a d graph ++ solutions id_order passes width b d graph)
    solved_sorted (Minus a b) d graph = IsStrictlySortedBy-filter R _ _ (solved_sorted a d graph)
    solved_sorted (Filter es a) d graph = IsStrictlySortedBy-filter R (passes_all passes es) _ (solved_sorted a d graph)
    solved_sorted (InGraph (place.Term name) a) d graph = sorted_if (has id_order d.names name) _ (solved_sorted a d (Some name))
    solved_sorted (InGraph (place.Variable v) a) d graph =
        sorted-set_of mapping_total (flat_map (λ name. filter_map (fitted id_order (place.Variable v) name) (solutions id_order passes width a d (Some name))) d.names)

  -- ---- the empty mapping goes on as any other

  empty_compatible : (n : ℕ) (b : Mapping Id) → compatible id_order (empty_mapping n) b ≡ true
  empty_compatible zero b = refl
  empty_compatible (suc n) [] = refl
  empty_compatible (suc n) (y ∷ b) = empty_compatible n b

  empty_merge : (n : ℕ) (b : Mapping Id) → length b ≤ n → merge (empty_mapping n) b ≡ b
  empty_merge zero [] h = refl
  empty_merge zero (y ∷ b) h = absurd (omega arith)
  empty_merge (suc n) [] h = refl
  empty_merge (suc n) (y ∷ b) h = ap (λ z. y ∷ z) (empty_merge n b (omega arith))

  empty_joins : (xs : Mappings) → AllByRecursion IsNarrow xs → filter_map (joined id_order (empty_mapping width)) xs ≡ xs
  empty_joins [] all = refl
  empty_joins (x ∷ xs) all =
      (λ i. cons_option (cond (empty_compatible width x i) (Some (empty_merge width x all.0 i)) None) (empty_joins xs all.1 i))

  -- a pattern that the empty group is joined with is that pattern
  pub alone : (passes : Expression Id → Mapping Id → Bool) (p : Plan Id) (d : View) (graph : Option Id)
      → join id_order (empty_mapping width ∷ []) (solutions id_order passes width p d graph) ≡ solutions id_order passes width p d graph
  alone passes p d graph =
      let xs : Mappings = solutions id_order passes width p d graph in
      ap (set_of R) (append-nil _ ∙ empty_joins xs (solved_narrow passes p d graph)) ∙ set_of-set mapping_total mapping_exact xs (solved_sorted passes p d graph)
