-- How many mappings sets have.
use Rattle.std.specs.Prelude.{Bool, true, false, cond, nat_lt, filter, ◌||◌, ◌&&◌, ◌<◌, ◌≤◌}
use Rattle.std.specs.List.{flat_map}
use Rattle.std.proofs.lemmas.List.Kept.{IsStrictlySortedBy-filter}
use Rattle.std.proofs.lemmas.Bool.{ltb-true, lt-ltb}
use Rattle.std.proofs.Common.{ℕ, ◌≡◌, suc, List, [], ◌∷◌, ◌++◌, Some, None, zero, length, get_or, drop, refl, sym, ap, ◌∙◌, append_assoc, subst, arith}
use Rattle.std.specs.declared.cmp.Ordering.{Ordering}
use Rattle.std.specs.declared.cmp.Ordering.TheVariants.{Less, Equal, Greater}
use Rattle.std.proofs.Math.Bool.{or_comm}
use Rattle.std.proofs.lemmas.List.Elements.{filter-append}
use Rattle.sets.specs.Sets.{placed, with, set_of, has, union}
use Rattle.sets.proofs.SetLaws.{has-set_of, has-union, has-filter, sorted-set_of, same_set}
use Rattle.datasets.specs.declared.id.Id.{Id}
use Rattle.datasets.specs.Id.{id_order}
use Rattle.meaning.specs.Mapping.{Mapping, mapping_cmp}
use Rattle.solution.specs.Limits.{up_to}
use Rattle.solution.specs.MappingOrder.{mapping_total, mapping_exact}

abbrev Mappings : Type 0
Mappings = List (Mapping Id)

abbrev set : Mappings → Mappings
set xs = set_of (mapping_cmp id_order) xs

-- ---- a set is no shorter than one of a part

placed_more : (r : Ordering) (x y : Mapping Id) (ys further : Mappings) → length ys ≤ length further → length (y ∷ ys) ≤ length (placed r x y ys further)
placed_more Less x y ys further h = omega arith
placed_more Equal x y ys further h = omega arith
placed_more Greater x y ys further h = omega arith

with_more : (x : Mapping Id) (ys : Mappings) → length ys ≤ length (with (mapping_cmp id_order) x ys)
with_more x [] = omega arith
with_more x (y ∷ ys) = placed_more (mapping_cmp id_order x y) x y ys (with (mapping_cmp id_order) x ys) (with_more x ys)

pub behind_fewer : (xs ys : Mappings) → length (set ys) ≤ length (set (xs ++ ys))
behind_fewer [] ys = omega arith
behind_fewer (x ∷ xs) ys =
    let rest = behind_fewer xs ys in
    let first = with_more x (set (xs ++ ys)) in
    omega arith

turned : (xs ys : Mappings) → set (xs ++ ys) ≡ set (ys ++ xs)
turned xs ys =
    same_set mapping_total mapping_exact _ _ (sorted-set_of mapping_total (xs ++ ys)) (sorted-set_of mapping_total (ys ++ xs))
    (λ q. has-union mapping_total q xs ys ∙ or_comm (has (mapping_cmp id_order) xs q) (has (mapping_cmp id_order) ys q) ∙ sym (has-union mapping_total q ys xs))

pub before_fewer : (xs ys : Mappings) → length (set xs) ≤ length (set (xs ++ ys))
before_fewer xs ys = subst (λ (zs : Mappings). length (set xs) ≤ length zs) (turned ys xs) (behind_fewer ys xs)

-- ---- repeats taken out early

pub set_early : (xs ys : Mappings) → set (set xs ++ ys) ≡ set (xs ++ ys)
set_early xs ys =
    same_set mapping_total mapping_exact _ _ (sorted-set_of mapping_total (set xs ++ ys)) (sorted-set_of mapping_total (xs ++ ys))
    (λ q. has-union mapping_total q (set xs) ys ∙ ap (λ b. b || has (mapping_cmp id_order) ys q) (has-set_of mapping_total q xs) ∙ sym (has-union mapping_total q xs ys))

pub set_filtered : (test : Mapping Id → Bool) (xs : Mappings) → set (filter test xs) ≡ filter test (set xs)
set_filtered test xs =
    same_set mapping_total mapping_exact _ _ (sorted-set_of mapping_total (filter test xs))
    (IsStrictlySortedBy-filter (mapping_cmp id_order) test (set xs) (sorted-set_of mapping_total xs))
    (λ q. has-set_of mapping_total q (filter test xs) ∙ has-filter mapping_total mapping_exact test q xs
    ∙ ap (λ b. b && test q) (sym (has-set_of mapping_total q xs)) ∙ sym (has-filter mapping_total mapping_exact test q (set xs)))

-- ---- filters within a flat map

module _ (test : Mapping Id → Bool) where
  pub filter_flat_map : (f : Mapping Id → Mappings) (xs : Mappings) → flat_map (λ a. filter test (f a)) xs ≡ filter test (flat_map f xs)
  filter_flat_map f [] = refl
  filter_flat_map f (x ∷ xs) = ap (λ z. filter test (f x) ++ z) (filter_flat_map f xs) ∙ sym (filter-append test (f x) (flat_map f xs))

-- the merges that pass a test, as a set
pub merges_are : (test : Mapping Id → Bool) (f : Mapping Id → Mappings) (xs all : Mappings) → set (flat_map f xs) ≡ all → set (flat_map (λ a. filter test (f a)) xs) ≡ filter test all
merges_are test f xs all e = ap set (filter_flat_map test f xs) ∙ set_filtered test (flat_map f xs) ∙ ap (filter test) e

-- a union has all of the first part
pub union_more : (xs ys : Mappings) → length (set xs) ≤ length (set (set xs ++ ys))
union_more xs ys = subst (λ (zs : Mappings). length (set xs) ≤ length zs) (sym (set_early xs ys)) (before_fewer xs ys)

-- ---- a loop's step

tail_is : (f : Mapping Id → Mappings) (xs : Mappings) (i : ℕ) (x : Mapping Id) → i < length xs → x ≡ get_or xs i x → f x ++ flat_map f (drop (suc i) xs) ≡ flat_map f (drop i xs)
tail_is f [] i x lt is = absurd (omega arith)
tail_is f (y ∷ xs) zero x lt is = ap (λ z. f z ++ flat_map f xs) is
tail_is f (y ∷ xs) (suc i) x lt is = tail_is f xs i x (omega arith) is

-- one more of the list, and those of what is left
pub one_more : (f : Mapping Id → Mappings) (xs : Mappings) (i next : ℕ) (x : Mapping Id) (before now : Mappings) → next ≡ suc i → i < length xs → x ≡ get_or xs i x
    → now ≡ before ++ f x → now ++ flat_map f (drop next xs) ≡ before ++ flat_map f (drop i xs)
one_more f xs i next x before now e lt is h =
    (λ k. h k ++ flat_map f (drop (e k) xs)) ∙ append_assoc before (f x) (flat_map f (drop (suc i) xs)) ∙ ap (λ z. before ++ z) (tail_is f xs i x lt is)

-- ---- limits

pub above : (limit : ℕ) (xs : Mappings) → limit < length xs → None ≡ up_to limit xs
above limit xs h = sym (ap (λ b. cond b None (Some xs)) (lt-ltb limit (length xs) h))

nothing_above : (b : Bool) (xs : Mappings) → None ≡ cond b None (Some xs) → b ≡ true
nothing_above true xs e = refl
nothing_above false xs e = absurd (cc)

some_not_above : (b : Bool) (xs ys : Mappings) → Some xs ≡ cond b None (Some ys) → xs ≡ ys
some_not_above true xs ys e = absurd (cc)
some_not_above false xs ys e = cc

-- what is above a limit is so with more
pub above_more : (limit : ℕ) (xs ys : Mappings) → None ≡ up_to limit xs → length xs ≤ length ys → None ≡ up_to limit ys
above_more limit xs ys e h =
    let lt : limit < length xs = ltb-true limit (length xs) (nothing_above (nat_lt limit (length xs)) xs e) in
    above limit ys (omega arith)

pub within : (limit : ℕ) (xs ys : Mappings) → Some xs ≡ up_to limit ys → xs ≡ ys
within limit xs ys e = some_not_above (nat_lt limit (length ys)) xs ys e

pub union_above : (limit : ℕ) (xs ys : Mappings) → None ≡ up_to limit (set xs) → None ≡ up_to limit (union (mapping_cmp id_order) (set xs) ys)
union_above limit xs ys e = above_more limit (set xs) (set (set xs ++ ys)) e (union_more xs ys)
