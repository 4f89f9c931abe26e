-- A renaming carries the operators of the algebra along.
use Rattle.std.proofs.Common.{◌≡◌, Bool, true, ◌&&◌, List, map, sym, ap, ◌∙◌}
use Rattle.std.specs.Prelude.{◌||◌, not, filter, filter_map}
use Rattle.std.specs.List.{list_all, flat_map}
use Rattle.std.specs.declared.cmp.Ordering.{Ordering}
use Rattle.sets.specs.Sets.{set_of}
use Rattle.meaning.specs.Mapping.{Mapping, mapping_cmp, merge, shares, compatible, joined}
use Rattle.meaning.specs.Operators.{join, union_of, minus, diff, left_join}
use Rattle.meaning_laws.specs.Renaming.{renamed_mapping, mapping_known}
use Rattle.meaning_laws.proofs.RenamedLists.{all-filter, map-filter, all-map, map-filter_map, map-flat_map, all-filter_map, all-flat_map}
use Rattle.meaning_laws.proofs.RenamedSets.{map-set_of, all-set_of, map-union, all-union}
use Rattle.meaning_laws.proofs.RenamedMappings.{merge-map, merge-known, shares-map, mapping-order, compatible-map, joined-map, joined-known}

module _ {A B : Type 0} (R : A → A → Ordering) (S : B → B → Ordering) (f : A → B) (k : A → Bool)
    (o : (x y : A) → k x ≡ true → k y ≡ true → S (f x) (f y) ≡ R x y) where
  -- mappings with known terms
  abbrev all_known : List (Mapping A) → Bool
  all_known ms = list_all (mapping_known k) ms

  abbrev all_renamed : List (Mapping A) → List (Mapping B)
  all_renamed ms = map (renamed_mapping f) ms

  -- the merges of all compatible pairs
  abbrev pairs : List (Mapping A) → Mapping A → List (Mapping A)
  pairs ys a = filter_map (joined R a) ys

  abbrev pairs_after : List (Mapping B) → Mapping B → List (Mapping B)
  pairs_after ys a = filter_map (joined S a) ys

  -- the tests of MINUS and of a difference under a test
  abbrev apart : Mapping A → Mapping A → Bool
  apart a b = not (compatible R a b) || not (shares a b)

  abbrev apart_after : Mapping B → Mapping B → Bool
  apart_after a b = not (compatible S a b) || not (shares a b)

  abbrev failing : (Mapping A → Bool) → Mapping A → Mapping A → Bool
  failing p a b = not (compatible R a b && p (merge a b))

  abbrev failing_after : (Mapping B → Bool) → Mapping B → Mapping B → Bool
  failing_after q a b = not (compatible S a b && q (merge a b))

  -- ---- sets of mappings

  pub set-map : (ms : List (Mapping A)) → all_known ms ≡ true
      → all_renamed (set_of (mapping_cmp R) ms) ≡ set_of (mapping_cmp S) (all_renamed ms)
  set-map ms h = map-set_of (mapping_cmp R) (mapping_cmp S) (renamed_mapping f) (mapping_known k) (mapping-order R S f k o) ms h

  pub set-known : (ms : List (Mapping A)) → all_known ms ≡ true → all_known (set_of (mapping_cmp R) ms) ≡ true
  set-known ms h = all-set_of (mapping_cmp R) (mapping_cmp S) (renamed_mapping f) (mapping_known k) (mapping-order R S f k o) ms h

  pub union-map : (xs ys : List (Mapping A)) → all_known xs ≡ true → all_known ys ≡ true
      → all_renamed (union_of R xs ys) ≡ union_of S (all_renamed xs) (all_renamed ys)
  union-map xs ys h h' = map-union (mapping_cmp R) (mapping_cmp S) (renamed_mapping f) (mapping_known k) (mapping-order R S f k o) xs ys h h'

  pub union-known : (xs ys : List (Mapping A)) → all_known xs ≡ true → all_known ys ≡ true → all_known (union_of R xs ys) ≡ true
  union-known xs ys h h' = all-union (mapping_cmp R) (mapping_cmp S) (renamed_mapping f) (mapping_known k) (mapping-order R S f k o) xs ys h h'

  -- ---- joins

  pairs-map : (a : Mapping A) (ys : List (Mapping A)) → mapping_known k a ≡ true → all_known ys ≡ true
      → all_renamed (pairs ys a) ≡ pairs_after (all_renamed ys) (renamed_mapping f a)
  pairs-map a ys ha h' =
      map-filter_map (renamed_mapping f) (renamed_mapping f) (mapping_known k) (joined R a) (joined S (renamed_mapping f a))
      (λ b hb. joined-map R S f k o a b ha hb) ys h'

  pairs-known : (xs ys : List (Mapping A)) → all_known xs ≡ true → all_known ys ≡ true → all_known (flat_map (pairs ys) xs) ≡ true
  pairs-known xs ys h h' =
      all-flat_map (mapping_known k) (mapping_known k) (pairs ys)
      (λ a ha. all-filter_map (mapping_known k) (mapping_known k) (joined R a) (λ b hb. joined-known R S f k o a b ha hb) ys h') xs h

  pub join-map : (xs ys : List (Mapping A)) → all_known xs ≡ true → all_known ys ≡ true
      → all_renamed (join R xs ys) ≡ join S (all_renamed xs) (all_renamed ys)
  join-map xs ys h h' =
      set-map (flat_map (pairs ys) xs) (pairs-known xs ys h h')
      ∙ ap (set_of (mapping_cmp S))
      (map-flat_map (renamed_mapping f) (renamed_mapping f) (mapping_known k) (pairs ys) (pairs_after (all_renamed ys))
      (λ a ha. pairs-map a ys ha h') xs h)

  pub join-known : (xs ys : List (Mapping A)) → all_known xs ≡ true → all_known ys ≡ true → all_known (join R xs ys) ≡ true
  join-known xs ys h h' = set-known (flat_map (pairs ys) xs) (pairs-known xs ys h h')

  -- ---- differences

  pub minus-map : (xs ys : List (Mapping A)) → all_known xs ≡ true → all_known ys ≡ true
      → all_renamed (minus R xs ys) ≡ minus S (all_renamed xs) (all_renamed ys)
  minus-map xs ys h h' =
      map-filter (renamed_mapping f) (mapping_known k) (λ a. list_all (apart a) ys) (λ a. list_all (apart_after a) (all_renamed ys))
      (λ a ha. all-map (renamed_mapping f) (mapping_known k) (apart a) (apart_after (renamed_mapping f a))
      (λ b hb i. not (compatible-map R S f k o a b ha hb i) || not (shares-map f a b i)) ys h') xs h

  pub minus-known : (xs ys : List (Mapping A)) → all_known xs ≡ true → all_known (minus R xs ys) ≡ true
  minus-known xs ys h = all-filter (mapping_known k) (λ a. list_all (apart a) ys) xs h

  -- ---- under a test

  pub diff-known : (p : Mapping A → Bool) (xs ys : List (Mapping A)) → all_known xs ≡ true → all_known (diff R p xs ys) ≡ true
  diff-known p xs ys h = all-filter (mapping_known k) (λ a. list_all (failing p a) ys) xs h

  passing-known : (p : Mapping A → Bool) (xs ys : List (Mapping A)) → all_known xs ≡ true → all_known ys ≡ true
      → all_known (filter p (join R xs ys)) ≡ true
  passing-known p xs ys h h' = all-filter (mapping_known k) p (join R xs ys) (join-known xs ys h h')

  pub left-known : (p : Mapping A → Bool) (xs ys : List (Mapping A)) → all_known xs ≡ true → all_known ys ≡ true
      → all_known (left_join R p xs ys) ≡ true
  left-known p xs ys h h' = union-known (filter p (join R xs ys)) (diff R p xs ys) (passing-known p xs ys h h') (diff-known p xs ys h)

  -- that the renaming keeps
  module _ (p : Mapping A → Bool) (q : Mapping B → Bool)
      (e : (m : Mapping A) → mapping_known k m ≡ true → q (renamed_mapping f m) ≡ p m) where
    pub passing-map : (xs : List (Mapping A)) → all_known xs ≡ true → all_renamed (filter p xs) ≡ filter q (all_renamed xs)
    passing-map xs h = map-filter (renamed_mapping f) (mapping_known k) p q e xs h

    merged : (a b : Mapping A) → mapping_known k a ≡ true → mapping_known k b ≡ true
        → q (merge (renamed_mapping f a) (renamed_mapping f b)) ≡ p (merge a b)
    merged a b ha hb = ap q (sym (merge-map f a b)) ∙ e (merge a b) (merge-known k a b ha hb)

    pub diff-map : (xs ys : List (Mapping A)) → all_known xs ≡ true → all_known ys ≡ true
        → all_renamed (diff R p xs ys) ≡ diff S q (all_renamed xs) (all_renamed ys)
    diff-map xs ys h h' =
        map-filter (renamed_mapping f) (mapping_known k) (λ a. list_all (failing p a) ys) (λ a. list_all (failing_after q a) (all_renamed ys))
        (λ a ha. all-map (renamed_mapping f) (mapping_known k) (failing p a) (failing_after q (renamed_mapping f a))
        (λ b hb i. not (compatible-map R S f k o a b ha hb i && merged a b ha hb i)) ys h') xs h

    pub left-map : (xs ys : List (Mapping A)) → all_known xs ≡ true → all_known ys ≡ true
        → all_renamed (left_join R p xs ys) ≡ left_join S q (all_renamed xs) (all_renamed ys)
    left-map xs ys h h' =
        let filtered = passing-map (join R xs ys) (join-known xs ys h h') ∙ ap (filter q) (join-map xs ys h h') in
        union-map (filter p (join R xs ys)) (diff R p xs ys) (passing-known p xs ys h h') (diff-known p xs ys h)
        ∙ (λ i. union_of S (filtered i) (diff-map xs ys h h' i))
