-- The operators of the algebra on sets of mappings (SPARQL 1.1 Query, 18.5), where a test stands
-- for the filters: multiplicities are left out.
use Rattle.std.specs.Prelude.{Bool, not, ◌&&◌, ◌||◌, List, filter, filter_map}
use Rattle.std.specs.List.{list_all, flat_map}
use Rattle.std.specs.declared.cmp.Ordering.{Ordering}
use Rattle.sets.specs.Sets.{set_of, union}
use Rattle.meaning.specs.Mapping.{Mapping, mapping_cmp, merge, shares, compatible, joined}

module _ {K : Type 0} (R : K → K → Ordering) where
  -- the merges of all compatible pairs
  abbrev pub join : List (Mapping K) → List (Mapping K) → List (Mapping K)
  join xs ys = set_of (mapping_cmp R) (flat_map (λ a. filter_map (joined R a) ys) xs)

  abbrev pub union_of : List (Mapping K) → List (Mapping K) → List (Mapping K)
  union_of xs ys = union (mapping_cmp R) xs ys

  -- each a that every b is incompatible with or shares no variable with
  abbrev pub minus : List (Mapping K) → List (Mapping K) → List (Mapping K)
  minus xs ys = filter (λ a. list_all (λ b. not (compatible R a b) || not (shares a b)) ys) xs

  -- each a such that the test fails on its merge with every compatible b
  abbrev pub diff : (Mapping K → Bool) → List (Mapping K) → List (Mapping K) → List (Mapping K)
  diff test xs ys = filter (λ a. list_all (λ b. not (compatible R a b && test (merge a b))) ys) xs

  abbrev pub left_join : (Mapping K → Bool) → List (Mapping K) → List (Mapping K) → List (Mapping K)
  left_join test xs ys = union_of (filter test (join xs ys)) (diff test xs ys)
