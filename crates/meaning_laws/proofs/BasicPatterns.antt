-- The joined solutions of triple patterns are the solutions of their basic graph pattern.
use Rattle.std.proofs.Common.{◌≡◌, ℕ, ◌<◌, Bool, true, false, ◌||◌, List, [], ◌∷◌, length, Option, Some, None, cond, All, Any, Contains, refl, sym, ap, ◌∙◌, subst}
use Rattle.std.specs.Prelude.{filter_map, option_and_then}
use Rattle.std.specs.List.{list_any, flat_map}
use Rattle.std.specs.List.Sorted.{IsStrictlySortedBy}
use Rattle.std.specs.Option.{is_some, option_cmp}
use Rattle.std.proofs.lemmas.Bool.{false≢true, or_left, or_right}
use Rattle.std.proofs.lemmas.Option.{cond_some}
use Rattle.std.proofs.lemmas.List.{length-replicate}
use Rattle.std.proofs.lemmas.List.Elements.{All-nil, All-cons, All-head, All-tail}
use Rattle.std.specs.declared.cmp.Ordering.{Ordering}
use Rattle.std.specs.declared.cmp.Ordering.TheVariants.{Equal}
use Rattle.std.specs.Cmp.{IsTotalOrder}
use Rattle.std.specs.Cmp.Lexicographic.{lists_total, options_total}
use Rattle.std.proofs.Math.Bool.{or-false, or_assoc}
use Rattle.sets.specs.Sets.{set_of}
use Rattle.sets.proofs.SetLaws.{has-set_of, sorted-set_of, sorted-cons, sorted-empty, Contains-from_has, has-from_Contains}
use Rattle.datasets.specs.declared.quad.Quad.{Quad}
use Rattle.datasets.specs.Id.{option_exact, list_exact}
use Rattle.algebra.specs.declared.pattern.Place.{Place}
use Rattle.algebra.specs.declared.pattern.TriplePattern.{TriplePattern}
use Rattle.meaning.specs.Mapping.{Mapping, empty_mapping, merge, mapping_cmp, fitted, compatible, joined}
use Rattle.meaning.specs.Operators.{join}
use Rattle.meaning.specs.Solutions.{mapping_onto, solutions_among, joined_with, basic_solutions}
use Rattle.meaning_laws.specs.BasicPatterns.{is_variable, stands_in, IsInstance, IsSolution, AreSolutions, JoinsAreSolutions}
use Rattle.meaning_laws.proofs.Members.{here, one_member, from_filter_map, to_filter_map, from_flat_map, to_flat_map}
use Rattle.meaning_laws.proofs.Bindings.{bound, IsPart, IsBelow, itself, then_part, under_part, nothing_bound, empty_part, whole, length-merge, bound-merge, left_part, right_part, both_parts, compatible_parts, fitted_sound, fitted_complete}

-- ---- tests and chains

or-none : (a b c d : Bool) → a ≡ false → (((a || b) || c) || d) ≡ (b || (c || d))
or-none true b c d e = absurd (false≢true (sym e))
or-none false true c d e = refl
or-none false false c d e = refl

from-chain : {A : Type 0} (h : A → Option A) (o : Option A) (y : A) → option_and_then h o ≡ Some y → (x : A) × (o ≡ Some x) × (h x ≡ Some y)
from-chain h None y e = absurd (false≢true (ap is_some e))
from-chain h (Some x) y e = (x, refl, e)

to-chain : {A : Type 0} (h g : A → Option A) (o : Option A) (x y z : A) → o ≡ Some x → g x ≡ Some y → h y ≡ Some z
    → option_and_then h (option_and_then g o) ≡ Some z
to-chain h g o x y z p q r = ap (λ w. option_and_then h (option_and_then g w)) p ∙ ap (option_and_then h) q ∙ r

-- ---- triple patterns

module _ {K : Type 0} where
  instance_of_part : (t : TriplePattern K) (q : Quad K) (a m : Mapping K) → IsPart a m → IsInstance a t q → IsInstance m t q
  instance_of_part t q a m h i = record {
    subject = under_part a m t.subject q.subject h i.subject;
    predicate = under_part a m t.predicate q.predicate h i.predicate;
    object = under_part a m t.object q.object h i.object;
  }

  -- the variables of a triple pattern are below the width
  record IsWithin (width : ℕ) (t : TriplePattern K) : Type 0 where
    pub subject : IsBelow width t.subject
    pub predicate : IsBelow width t.predicate
    pub object : IsBelow width t.object

  within_parts : (width : ℕ) (t : TriplePattern K) → ((v : ℕ) → stands_in v t ≡ true → v < width) → IsWithin width t
  within_parts width t h = record {
    subject = λ v e. h v (or_left (is_variable v t.subject) (rest v) e);
    predicate = λ v e. h v (or_right (is_variable v t.subject) (rest v) (or_left (is_variable v t.predicate) (is_variable v t.object) e));
    object = λ v e. h v (or_right (is_variable v t.subject) (rest v) (or_right (is_variable v t.predicate) (is_variable v t.object) e));
  }
    where
      rest : ℕ → Bool
      rest v = is_variable v t.predicate || is_variable v t.object

module _ {K : Type 0} {R : K → K → Ordering} (o : IsTotalOrder R) (exact : (x y : K) → R x y ≡ Equal → x ≡ y) (width : ℕ) where
  -- the mapping binds just the variables of the pattern, which it makes into the triple
  record IsOnto (t : TriplePattern K) (q : Quad K) (c : Mapping K) : Type 0 where
    pub row : length c ≡ width
    pub binds : (v : ℕ) → bound c v ≡ stands_in v t
    pub instance : IsInstance c t q

  at_row : (a : Mapping K) (p : Place K) → length a ≡ width → IsBelow width p → IsBelow (length a) p
  at_row a p e h = subst (λ w. IsBelow w p) (sym e) h

  empty_row : length (empty_mapping {K = K} width) ≡ width
  empty_row = length-replicate width None

  onto_sound : (t : TriplePattern K) (q : Quad K) (c : Mapping K) → IsWithin width t → mapping_onto R width t q ≡ Some c → IsOnto t q c
  onto_sound t q c w e =
      let none : Mapping K = empty_mapping width in
      let first : Option (Mapping K) = fitted R t.subject q.subject none in
      let b = from-chain (fitted R t.object q.object) (option_and_then (fitted R t.predicate q.predicate) first) c e in
      let a = from-chain (fitted R t.predicate q.predicate) first b.0 b.1 in
      let f = fitted_sound o exact t.subject q.subject none a.0 (at_row none t.subject empty_row w.subject) a.1 in
      let a-row : length a.0 ≡ width = f.row ∙ empty_row in
      let g = fitted_sound o exact t.predicate q.predicate a.0 b.0 (at_row a.0 t.predicate a-row w.predicate) a.2 in
      let b-row : length b.0 ≡ width = g.row ∙ a-row in
      let h = fitted_sound o exact t.object q.object b.0 c (at_row b.0 t.object b-row w.object) b.2 in
      record {
        row = h.row ∙ b-row;
        binds = λ v.
            h.binds v
            ∙ ap (λ r. r || is_variable v t.object) (g.binds v ∙ ap (λ r. r || is_variable v t.predicate) (f.binds v))
            ∙ or-none (bound none v) (is_variable v t.subject) (is_variable v t.predicate) (is_variable v t.object)
            (ap is_some (nothing_bound width v));
        instance = record {
          subject = under_part b.0 c t.subject q.subject h.part (under_part a.0 b.0 t.subject q.subject g.part f.term);
          predicate = under_part b.0 c t.predicate q.predicate h.part g.term;
          object = h.term;
        };
      }

  -- a mapping that makes the pattern into the triple has the one that is found
  onto_complete : (t : TriplePattern K) (q : Quad K) (m : Mapping K) → IsWithin width t → IsInstance m t q
      → (c : Mapping K) × (mapping_onto R width t q ≡ Some c) × IsPart c m
  onto_complete t q m w i =
      let none : Mapping K = empty_mapping width in
      let a = fitted_complete o exact t.subject q.subject none m (at_row none t.subject empty_row w.subject) (empty_part width m) i.subject in
      let a-row : length a.0 ≡ width = a.2 ∙ empty_row in
      let b = fitted_complete o exact t.predicate q.predicate a.0 m (at_row a.0 t.predicate a-row w.predicate) a.3 i.predicate in
      let b-row : length b.0 ≡ width = b.2 ∙ a-row in
      let c = fitted_complete o exact t.object q.object b.0 m (at_row b.0 t.object b-row w.object) b.3 i.object in
      let first : Option (Mapping K) = fitted R t.subject q.subject none in
      (c.0, to-chain (fitted R t.object q.object) (fitted R t.predicate q.predicate) first a.0 b.0 c.0 a.1 b.1 c.1, c.3)

  -- ---- sets of mappings

  mapping_total : IsTotalOrder (mapping_cmp R)
  mapping_total = lists_total (options_total o)

  mapping_exact : (a b : Mapping K) → mapping_cmp R a b ≡ Equal → a ≡ b
  mapping_exact = list_exact (option_cmp R) (option_exact R exact)

  from_set : (ms : List (Mapping K)) (m : Mapping K) → Contains (set_of (mapping_cmp R) ms) m → Contains ms m
  from_set ms m c =
      Contains-from_has mapping_total mapping_exact ms m
      (sym (has-set_of mapping_total m ms) ∙ has-from_Contains mapping_total mapping_exact (set_of (mapping_cmp R) ms) m c)

  to_set : (ms : List (Mapping K)) (m : Mapping K) → Contains ms m → Contains (set_of (mapping_cmp R) ms) m
  to_set ms m c =
      Contains-from_has mapping_total mapping_exact (set_of (mapping_cmp R) ms) m
      (has-set_of mapping_total m ms ∙ has-from_Contains mapping_total mapping_exact ms m c)

  -- the solutions of a triple pattern
  from_among : (t : TriplePattern K) (triples : List (Quad K)) (c : Mapping K) → IsWithin width t
      → Contains (solutions_among R width t triples) c
      → (q : Quad K) × Contains triples q × IsOnto t q c
  from_among t triples c w k =
      let r = from_filter_map (mapping_onto R width t) triples c (from_set (filter_map (mapping_onto R width t) triples) c k) in
      (r.0, r.1, onto_sound t r.0 c w r.2)

  to_among : (t : TriplePattern K) (triples : List (Quad K)) (q : Quad K) (c : Mapping K) → Contains triples q
      → mapping_onto R width t q ≡ Some c
      → Contains (solutions_among R width t triples) c
  to_among t triples q c k e =
      to_set (filter_map (mapping_onto R width t) triples) c (to_filter_map (mapping_onto R width t) triples q c k e)

  -- m is the merge of compatible members
  record IsPair (xs ys : List (Mapping K)) (m : Mapping K) : Type 0 where
    pub left : Mapping K
    pub right : Mapping K
    pub in_left : Contains xs left
    pub in_right : Contains ys right
    pub agreed : compatible R left right ≡ true
    pub merged : merge left right ≡ m

  from_join : (xs ys : List (Mapping K)) (m : Mapping K) → Contains (join R xs ys) m → IsPair xs ys m
  from_join xs ys m c =
      let pairs = λ (a : Mapping K). filter_map (joined R a) ys in
      let a = from_flat_map pairs xs m (from_set (flat_map pairs xs) m c) in
      let b = from_filter_map (joined R a.0) ys m a.2 in
      let parts = cond_some (compatible R a.0 b.0) (merge a.0 b.0) m b.2 in
      record { left = a.0; right = b.0; in_left = a.1; in_right = b.1; agreed = parts.0; merged = parts.1 }

  to_join : (xs ys : List (Mapping K)) (a b : Mapping K) → Contains xs a → Contains ys b → compatible R a b ≡ true
      → Contains (join R xs ys) (merge a b)
  to_join xs ys a b ca cb e =
      let pairs = λ (c : Mapping K). filter_map (joined R c) ys in
      let found = to_filter_map (joined R a) ys b (merge a b) cb (ap (λ z. cond z (Some (merge a b)) None) e) in
      to_set (flat_map pairs xs) (merge a b) (to_flat_map pairs xs a (merge a b) ca found)

  -- ---- basic graph patterns

  -- what was found, joined with the solutions of one triple pattern
  abbrev with_one : TriplePattern K → List (Quad K) → List (Mapping K) → List (Mapping K)
  with_one t triples found = join R found (solutions_among R width t triples)

  -- m is a with just what is needed for the instances of the patterns to be among the triples
  record IsMore (ts : List (TriplePattern K)) (triples : List (Quad K)) (a m : Mapping K) : Type 0 where
    pub row : length m ≡ width
    pub part : IsPart a m
    pub binds : (v : ℕ) → bound m v ≡ (bound a v || list_any (stands_in v) ts)
    pub instances : All (λ t. Any (IsInstance m t) triples) ts

  -- all are of the width
  abbrev AreRows : List (Mapping K) → Type 0
  AreRows found = (a : Mapping K) → Contains found a → length a ≡ width

  -- all variables are below the width
  abbrev AreWithin : List (TriplePattern K) → Type 0
  AreWithin ts = (v : ℕ) → list_any (stands_in v) ts ≡ true → v < width

  within_first : (t : TriplePattern K) (ts : List (TriplePattern K)) → AreWithin (t ∷ ts) → IsWithin width t
  within_first t ts h = within_parts width t (λ v e. h v (or_left (stands_in v t) (list_any (stands_in v) ts) e))

  within_rest : (t : TriplePattern K) (ts : List (TriplePattern K)) → AreWithin (t ∷ ts) → AreWithin ts
  within_rest t ts h v e = h v (or_right (stands_in v t) (list_any (stands_in v) ts) e)

  rows_joined : (t : TriplePattern K) (triples : List (Quad K)) (found : List (Mapping K)) → IsWithin width t → AreRows found
      → AreRows (with_one t triples found)
  rows_joined t triples found w rows m c =
      let p = from_join found (solutions_among R width t triples) m c in
      let left = rows p.left p.in_left in
      let right = (from_among t triples p.right w p.in_right).2.row in
      ap length (sym p.merged) ∙ length-merge p.left p.right (left ∙ sym right) ∙ left

  -- a merge has the variables of its parts
  merge_binds : (t : TriplePattern K) (q : Quad K) (a c : Mapping K) (v : ℕ) → length a ≡ width → IsOnto t q c
      → bound (merge a c) v ≡ (bound a v || stands_in v t)
  merge_binds t q a c v e s = bound-merge a c v (e ∙ sym s.row) ∙ ap (λ r. bound a v || r) (s.binds v)

  -- one triple pattern before the others
  more_first : (t : TriplePattern K) (ts : List (TriplePattern K)) (triples : List (Quad K)) (found : List (Mapping K)) (b m : Mapping K)
      → IsWithin width t → AreRows found → Contains (with_one t triples found) b → IsMore ts triples b m
      → (a : Mapping K) × Contains found a × IsMore (t ∷ ts) triples a m
  more_first t ts triples found b m w rows c more =
      let p = from_join found (solutions_among R width t triples) b c in
      let a = p.left in
      let s = from_among t triples p.right w p.in_right in
      let a-row = rows a p.in_left in
      let e : length a ≡ length p.right = a-row ∙ sym s.2.row in
      let left : IsPart a b = subst (IsPart a) p.merged (left_part a p.right e) in
      let right : IsPart p.right b = subst (IsPart p.right) p.merged (right_part o exact a p.right e p.agreed) in (
        a,
        p.in_left,
        record {
          row = more.row;
          part = then_part a b m left more.part;
          binds = λ v.
              let rest = list_any (stands_in v) ts in
              more.binds v
              ∙ ap (λ r. r || rest) (ap (λ (x : Mapping K). bound x v) (sym p.merged) ∙ merge_binds t s.0 a p.right v a-row s.2)
              ∙ or_assoc (bound a v) (stands_in v t) rest;
          instances =
              All-cons (λ u. Any (IsInstance m u) triples) t ts
              (s.1.0, s.0, s.1.1, s.1.2, instance_of_part t s.0 p.right m (then_part p.right b m right more.part) s.2.instance) more.instances;
        },
      )

  joined_sound : (ts : List (TriplePattern K)) (triples : List (Quad K)) (found : List (Mapping K)) (m : Mapping K) → AreWithin ts
      → AreRows found → Contains (joined_with R width found ts triples) m → (a : Mapping K) × Contains found a × IsMore ts triples a m
  joined_sound [] triples found m w rows c = (
    m,
    c,
    record {
      row = rows m c;
      part = itself m;
      binds = λ v. sym (or-false (bound m v));
      instances = All-nil (λ u. Any (IsInstance m u) triples);
    },
  )
  joined_sound (t ∷ ts) triples found m w rows c =
      let w-first = within_first t ts w in
      let next-rows = rows_joined t triples found w-first rows in
      let r = joined_sound ts triples (with_one t triples found) m (within_rest t ts w) next-rows c in
      more_first t ts triples found r.0 m w-first rows r.1 r.2

  -- the merge with what m has of the first triple pattern's variables
  more_rest : (t : TriplePattern K) (ts : List (TriplePattern K)) (triples : List (Quad K)) (found : List (Mapping K)) (a m : Mapping K)
      → IsWithin width t → AreRows found → Contains found a → IsMore (t ∷ ts) triples a m
      → (b : Mapping K) × Contains (with_one t triples found) b × IsMore ts triples b m
  more_rest t ts triples found a m w rows k more =
      let q = All-head (λ u. Any (IsInstance m u) triples) t ts more.instances in
      let c = onto_complete t q.1 m w q.4 in
      let s = onto_sound t q.1 c.0 w c.1 in
      let among = to_among t triples q.1 c.0 (q.0, q.2, q.3) c.1 in (
        merge a c.0,
        to_join found (solutions_among R width t triples) a c.0 k among (compatible_parts o exact a c.0 m more.part c.2),
        record {
          row = more.row;
          part = both_parts a c.0 m (rows a k ∙ sym s.row) more.part c.2;
          binds = λ v.
              let rest = list_any (stands_in v) ts in
              more.binds v ∙ sym (or_assoc (bound a v) (stands_in v t) rest) ∙ ap (λ r. r || rest) (sym (merge_binds t q.1 a c.0 v (rows a k) s));
          instances = All-tail (λ u. Any (IsInstance m u) triples) t ts more.instances;
        },
      )

  joined_complete : (ts : List (TriplePattern K)) (triples : List (Quad K)) (found : List (Mapping K)) (a m : Mapping K) → AreWithin ts
      → AreRows found → Contains found a → IsMore ts triples a m → Contains (joined_with R width found ts triples) m
  joined_complete [] triples found a m w rows k more =
      subst (Contains found) (whole a m (more.row ∙ sym (rows a k)) more.part (λ v. more.binds v ∙ or-false (bound a v))) k
  joined_complete (t ∷ ts) triples found a m w rows k more =
      let w-first = within_first t ts w in
      let b = more_rest t ts triples found a m w-first rows k more in
      let next-rows = rows_joined t triples found w-first rows in
      joined_complete ts triples (with_one t triples found) b.0 m (within_rest t ts w) next-rows b.1 b.2

  -- ---- from the empty mapping on

  none_row : AreRows (empty_mapping width ∷ [])
  none_row a c = ap length (sym (one_member (empty_mapping width) a c)) ∙ empty_row

  none_bound : (a : Mapping K) → Contains (empty_mapping width ∷ []) a → (v : ℕ) → bound a v ≡ false
  none_bound a c v = ap (λ (x : Mapping K). bound x v) (sym (one_member (empty_mapping width) a c)) ∙ ap is_some (nothing_bound width v)

  basic_sound : (ts : List (TriplePattern K)) (triples : List (Quad K)) (m : Mapping K) → AreWithin ts
      → Contains (basic_solutions R width ts triples) m → IsSolution width ts triples m
  basic_sound ts triples m w c =
      let r = joined_sound ts triples (empty_mapping width ∷ []) m w none_row c in
      record {
        row = r.2.row;
        binds = λ v. r.2.binds v ∙ ap (λ z. z || list_any (stands_in v) ts) (none_bound r.0 r.1 v);
        instances = r.2.instances;
      }

  basic_complete : (ts : List (TriplePattern K)) (triples : List (Quad K)) (m : Mapping K) → AreWithin ts → IsSolution width ts triples m
      → Contains (basic_solutions R width ts triples) m
  basic_complete ts triples m w s =
      let none = here (empty_mapping width) [] in
      joined_complete ts triples (empty_mapping width ∷ []) (empty_mapping width) m w none_row none (record {
        row = s.row;
        part = empty_part width m;
        binds = λ v. s.binds v ∙ ap (λ z. z || list_any (stands_in v) ts) (sym (none_bound (empty_mapping width) none v));
        instances = s.instances;
      })

  joined_once : (ts : List (TriplePattern K)) (triples : List (Quad K)) (found : List (Mapping K)) → IsStrictlySortedBy (mapping_cmp R) found
      → IsStrictlySortedBy (mapping_cmp R) (joined_with R width found ts triples)
  joined_once [] triples found s = s
  joined_once (t ∷ ts) triples found s =
      let next = solutions_among R width t triples in
      joined_once ts triples (join R found next) (sorted-set_of mapping_total (flat_map (λ a. filter_map (joined R a) next) found))

  basic_solutions_are : (ts : List (TriplePattern K)) (triples : List (Quad K)) → AreWithin ts
      → AreSolutions R width ts triples (basic_solutions R width ts triples)
  basic_solutions_are ts triples w = record {
    once =
        joined_once ts triples (empty_mapping width ∷ [])
        (sorted-cons (mapping_cmp R) (empty_mapping width) [] tt (sorted-empty (mapping_cmp R)));
    members = λ m. (basic_sound ts triples m w, basic_complete ts triples m w);
  }

pub joins_are_solutions : {K : Type 0} → JoinsAreSolutions K
joins_are_solutions V width ts triples o within = basic_solutions_are o.total o.exact width ts triples within
