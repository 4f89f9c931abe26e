-- A renaming carries mappings, their merges and the mappings of triple patterns along.
use Rattle.std.proofs.Common.{◌≡◌, ℕ, zero, suc, Bool, true, ◌&&◌, [], ◌∷◌, Option, Some, None, refl, sym, ap, ◌∙◌}
use Rattle.std.specs.Prelude.{◌||◌, cond, slice_set, option_and_then}
use Rattle.std.specs.Option.{option_map}
use Rattle.std.specs.declared.cmp.Ordering.{Ordering}
use Rattle.std.specs.Ordering.{is_eq, ordering_then}
use Rattle.std.proofs.lemmas.Bool.{and_parts, and_from}
use Rattle.datasets.specs.declared.quad.Quad.{Quad}
use Rattle.algebra.specs.declared.pattern.Place.{Place}
use Rattle.algebra.specs.declared.pattern.Place.TheVariants as place
use Rattle.algebra.specs.declared.pattern.TriplePattern.{TriplePattern}
use Rattle.meaning.specs.Mapping.{Mapping, empty_mapping, term_for, either, merge, are_bound, shares, mapping_cmp, bound_to, fitted, agree, compatible, joined}
use Rattle.meaning.specs.Solutions.{mapping_onto}
use Rattle.meaning_laws.specs.Renaming.{renamed_quad, renamed_place, renamed_pattern, renamed_mapping, option_known, quad_known, place_known, pattern_known, mapping_known}
use Rattle.meaning_laws.proofs.RenamedLists.{some-if, known-if}
use Rattle.meaning_laws.proofs.RenamedSets.{option-order, parts_of}

-- ---- what needs no order

module _ {A B : Type 0} (f : A → B) where
  pub empty-map : (width : ℕ) → renamed_mapping f (empty_mapping width) ≡ empty_mapping width
  empty-map zero = refl
  empty-map (suc w) = ap (λ m. None ∷ m) (empty-map w)

  pub term-for : (m : Mapping A) (v : ℕ) → option_map f (term_for m v) ≡ term_for (renamed_mapping f m) v
  term-for [] v = refl
  term-for (x ∷ m) zero = refl
  term-for (x ∷ m) (suc v) = term-for m v

  set-map : (m : Mapping A) (v : ℕ) (x : Option A) → renamed_mapping f (slice_set m v x) ≡ slice_set (renamed_mapping f m) v (option_map f x)
  set-map [] v x = refl
  set-map (y ∷ m) zero x = refl
  set-map (y ∷ m) (suc v) x = ap (λ ys. option_map f y ∷ ys) (set-map m v x)

  either-map : (x y : Option A) → option_map f (either x y) ≡ either (option_map f x) (option_map f y)
  either-map None y = refl
  either-map (Some x) y = refl

  pub merge-map : (a b : Mapping A) → renamed_mapping f (merge a b) ≡ merge (renamed_mapping f a) (renamed_mapping f b)
  merge-map [] b = refl
  merge-map (x ∷ a) [] = refl
  merge-map (x ∷ a) (y ∷ b) = (λ i. either-map x y i ∷ merge-map a b i)

  bound-both : (x y : Option A) → are_bound (option_map f x) (option_map f y) ≡ are_bound x y
  bound-both None y = refl
  bound-both (Some x) None = refl
  bound-both (Some x) (Some y) = refl

  pub shares-map : (a b : Mapping A) → shares (renamed_mapping f a) (renamed_mapping f b) ≡ shares a b
  shares-map [] b = refl
  shares-map (x ∷ a) [] = refl
  shares-map (x ∷ a) (y ∷ b) = (λ i. bound-both x y i || shares-map a b i)

module _ {A : Type 0} (k : A → Bool) where
  pub empty-known : (width : ℕ) → mapping_known k (empty_mapping width) ≡ true
  empty-known zero = refl
  empty-known (suc w) = empty-known w

  pub term-for-known : (m : Mapping A) (v : ℕ) → mapping_known k m ≡ true → option_known k (term_for m v) ≡ true
  term-for-known [] v h = refl
  term-for-known (x ∷ m) zero h = (and_parts (option_known k x) (mapping_known k m) h).0
  term-for-known (x ∷ m) (suc v) h = term-for-known m v (and_parts (option_known k x) (mapping_known k m) h).1

  set-known : (m : Mapping A) (v : ℕ) (x : Option A) → mapping_known k m ≡ true → option_known k x ≡ true
      → mapping_known k (slice_set m v x) ≡ true
  set-known [] v x h hx = refl
  set-known (y ∷ m) zero x h hx = and_from (option_known k x) (mapping_known k m) hx (and_parts (option_known k y) (mapping_known k m) h).1
  set-known (y ∷ m) (suc v) x h hx =
      let parts = and_parts (option_known k y) (mapping_known k m) h in
      and_from (option_known k y) (mapping_known k (slice_set m v x)) parts.0 (set-known m v x parts.1 hx)

  either-known : (x y : Option A) → option_known k x ≡ true → option_known k y ≡ true → option_known k (either x y) ≡ true
  either-known None y hx hy = hy
  either-known (Some x) y hx hy = hx

  pub merge-known : (a b : Mapping A) → mapping_known k a ≡ true → mapping_known k b ≡ true → mapping_known k (merge a b) ≡ true
  merge-known [] b ha hb = refl
  merge-known (x ∷ a) [] ha hb = refl
  merge-known (x ∷ a) (y ∷ b) ha hb =
      let u = and_parts (option_known k x) (mapping_known k a) ha in
      let v = and_parts (option_known k y) (mapping_known k b) hb in
      and_from (option_known k (either x y)) (mapping_known k (merge a b)) (either-known x y u.0 v.0) (merge-known a b u.1 v.1)

-- ---- what rests on the order

module _ {A B : Type 0} (R : A → A → Ordering) (S : B → B → Ordering) (f : A → B) (k : A → Bool)
    (o : (x y : A) → k x ≡ true → k y ≡ true → S (f x) (f y) ≡ R x y) where
  pub mapping-order : (m n : Mapping A) → mapping_known k m ≡ true → mapping_known k n ≡ true
      → mapping_cmp S (renamed_mapping f m) (renamed_mapping f n) ≡ mapping_cmp R m n
  mapping-order [] [] h h' = refl
  mapping-order [] (y ∷ n) h h' = refl
  mapping-order (x ∷ m) [] h h' = refl
  mapping-order (x ∷ m) (y ∷ n) h h' =
      let a = and_parts (option_known k x) (mapping_known k m) h in
      let b = and_parts (option_known k y) (mapping_known k n) h' in
      (λ i. ordering_then (option-order R S f k o x y a.0 b.0 i) (mapping-order m n a.1 b.1 i))

  agree-map : (x y : Option A) → option_known k x ≡ true → option_known k y ≡ true → agree S (option_map f x) (option_map f y) ≡ agree R x y
  agree-map None y hx hy = refl
  agree-map (Some x) None hx hy = refl
  agree-map (Some x) (Some y) hx hy = ap is_eq (o x y hx hy)

  pub compatible-map : (a b : Mapping A) → mapping_known k a ≡ true → mapping_known k b ≡ true
      → compatible S (renamed_mapping f a) (renamed_mapping f b) ≡ compatible R a b
  compatible-map [] b ha hb = refl
  compatible-map (x ∷ a) [] ha hb = refl
  compatible-map (x ∷ a) (y ∷ b) ha hb =
      let u = and_parts (option_known k x) (mapping_known k a) ha in
      let v = and_parts (option_known k y) (mapping_known k b) hb in
      (λ i. agree-map x y u.0 v.0 i && compatible-map a b u.1 v.1 i)

  pub joined-map : (a b : Mapping A) → mapping_known k a ≡ true → mapping_known k b ≡ true
      → option_map (renamed_mapping f) (joined R a b) ≡ joined S (renamed_mapping f a) (renamed_mapping f b)
  joined-map a b ha hb =
      some-if (renamed_mapping f) (compatible R a b) (merge a b)
      ∙ (λ i. cond (sym (compatible-map a b ha hb) i) (Some (merge-map f a b i)) None)

  pub joined-known : (a b : Mapping A) → mapping_known k a ≡ true → mapping_known k b ≡ true
      → option_known (mapping_known k) (joined R a b) ≡ true
  joined-known a b ha hb = known-if (mapping_known k) (compatible R a b) (merge a b) (merge-known k a b ha hb)

  -- ---- a place of a pattern onto a term

  equal-map : (x y : A) (m : Mapping A) → k x ≡ true → k y ≡ true
      → option_map (renamed_mapping f) (cond (is_eq (R x y)) (Some m) None) ≡ cond (is_eq (S (f x) (f y))) (Some (renamed_mapping f m)) None
  equal-map x y m hx hy =
      some-if (renamed_mapping f) (is_eq (R x y)) m ∙ (λ i. cond (is_eq (sym (o x y hx hy) i)) (Some (renamed_mapping f m)) None)

  bound-map : (m : Mapping A) (v : ℕ) (x : A) (t : Option A) → k x ≡ true → option_known k t ≡ true
      → option_map (renamed_mapping f) (bound_to R m v x t) ≡ bound_to S (renamed_mapping f m) v (f x) (option_map f t)
  bound-map m v x None hx h = ap Some (set-map f m v (Some x))
  bound-map m v x (Some y) hx h = equal-map x y m hx h

  bound-known : (m : Mapping A) (v : ℕ) (x : A) (t : Option A) → mapping_known k m ≡ true → k x ≡ true
      → option_known (mapping_known k) (bound_to R m v x t) ≡ true
  bound-known m v x None h hx = set-known k m v (Some x) h hx
  bound-known m v x (Some y) h hx = known-if (mapping_known k) (is_eq (R x y)) m h

  pub fitted-map : (p : Place A) (x : A) (m : Mapping A) → place_known k p ≡ true → k x ≡ true → mapping_known k m ≡ true
      → option_map (renamed_mapping f) (fitted R p x m) ≡ fitted S (renamed_place f p) (f x) (renamed_mapping f m)
  fitted-map (place.Term y) x m hp hx h = equal-map x y m hx hp
  fitted-map (place.Variable v) x m hp hx h =
      bound-map m v x (term_for m v) hx (term-for-known k m v h) ∙ ap (bound_to S (renamed_mapping f m) v (f x)) (term-for f m v)

  pub fitted-known : (p : Place A) (x : A) (m : Mapping A) → k x ≡ true → mapping_known k m ≡ true
      → option_known (mapping_known k) (fitted R p x m) ≡ true
  fitted-known (place.Term y) x m hx h = known-if (mapping_known k) (is_eq (R x y)) m h
  fitted-known (place.Variable v) x m hx h = bound-known m v x (term_for m v) h hx

  then-map : (p : Place A) (x : A) (m : Option (Mapping A)) → place_known k p ≡ true → k x ≡ true → option_known (mapping_known k) m ≡ true
      → option_map (renamed_mapping f) (option_and_then (fitted R p x) m)
      ≡ option_and_then (fitted S (renamed_place f p) (f x)) (option_map (renamed_mapping f) m)
  then-map p x None hp hx h = refl
  then-map p x (Some m) hp hx h = fitted-map p x m hp hx h

  then-known : (p : Place A) (x : A) (m : Option (Mapping A)) → k x ≡ true → option_known (mapping_known k) m ≡ true
      → option_known (mapping_known k) (option_and_then (fitted R p x) m) ≡ true
  then-known p x None hx h = refl
  then-known p x (Some m) hx h = fitted-known p x m hx h

  -- ---- a triple pattern onto a triple

  pub onto-map : (width : ℕ) (t : TriplePattern A) (q : Quad A) → pattern_known k t ≡ true → quad_known k q ≡ true
      → option_map (renamed_mapping f) (mapping_onto R width t q) ≡ mapping_onto S width (renamed_pattern f t) (renamed_quad f q)
  onto-map width t q h h' =
      let subject = and_parts (place_known k t.subject) (place_known k t.predicate && place_known k t.object) h in
      let rest = and_parts (place_known k t.predicate) (place_known k t.object) subject.1 in
      let x = parts_of R S f k o q h' in
      let first = fitted R t.subject q.subject (empty_mapping width) in
      let second = option_and_then (fitted R t.predicate q.predicate) first in
      let first-known = fitted-known t.subject q.subject (empty_mapping width) x.subject (empty-known k width) in
      then-map t.object q.object second rest.1 x.object (then-known t.predicate q.predicate first x.predicate first-known)
      ∙ ap (option_and_then (fitted S (renamed_place f t.object) (f q.object)))
      (then-map t.predicate q.predicate first rest.0 x.predicate first-known
      ∙ ap (option_and_then (fitted S (renamed_place f t.predicate) (f q.predicate)))
      (fitted-map t.subject q.subject (empty_mapping width) subject.0 x.subject (empty-known k width)
      ∙ ap (fitted S (renamed_place f t.subject) (f q.subject)) (empty-map f width)))

  pub onto-known : (width : ℕ) (t : TriplePattern A) (q : Quad A) → quad_known k q ≡ true
      → option_known (mapping_known k) (mapping_onto R width t q) ≡ true
  onto-known width t q h =
      let x = parts_of R S f k o q h in
      let first = fitted R t.subject q.subject (empty_mapping width) in
      let second = option_and_then (fitted R t.predicate q.predicate) first in
      then-known t.object q.object second x.object
      (then-known t.predicate q.predicate first x.predicate (fitted-known t.subject q.subject (empty_mapping width) x.subject (empty-known k width)))
