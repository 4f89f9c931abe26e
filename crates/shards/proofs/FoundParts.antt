-- Parts of an answer that were found each in a view of its own, as a list.
use Rattle.std.specs.Prelude.{Bool, filter, flat_map, map, Option, Some, None, ◌&&◌, ◌==◌, if◌then◌else◌}
use Rattle.std.proofs.Common.{◌≡◌, ℕ, inl, inr, true, false, List, [], ◌∷◌, refl, sym, ap, ◌∙◌, subst, eq-eqb, ne_eqb}
use Rattle.std.proofs.lemmas.Bool.{false≢true, cases_eq, or_parts, or_left, or_right, or_cases, and_parts}
use Rattle.std.proofs.lemmas.List.Folds.{flat_map-map, list_any-append}
use Rattle.std.proofs.Math.Bool.{or-false}
use Rattle.std.specs.List.{list_any}
use Rattle.std.proofs.lemmas.List.{append-nil}
use Rattle.sets.specs.Sets.{has, set_of}
use Rattle.sets.proofs.SetLaws.{same_set, sorted-set_of, set_of-set, has-set_of, has-filter}
use Rattle.datasets.specs.declared.id.Id.{Id}
use Rattle.datasets.specs.declared.quad.Quad.{Quad}
use Rattle.datasets.specs.declared.read.QuadPattern.{QuadPattern}
use Rattle.datasets.specs.declared.read.Read.TheVariants.{Scan, GraphIs, Graphs}
use Rattle.datasets.specs.Dataset.{Quads, Is, Names, quad_order, matches}
use Rattle.datasets.specs.Id.{id_order, id_total, id_exact, quad_total, quad_exact}
use Rattle.change_laws.specs.Laws.{IsRising}
use Rattle.reads.specs.Reads.{View, Read, Answer, says}
use Rattle.shards.specs.Shards.{lies_in, shards_for, shards_of, part_of_answer, quads_of, names_of, merged}
use Rattle.shards.proofs.Members.{has-parts}
use Rattle.shards.proofs.ShardLaws.{home, parts_of_merged}

turned : (a b : ℕ) → (a == b) ≡ false → (b == a) ≡ false
turned a b h = elim (cases_eq b a) [ inl e ↦ absurd (false≢true (sym h ∙ eq-eqb a b (sym e))) | inr ne ↦ ne_eqb b a ne ]

and_kept : (a b : Bool) → (a ≡ true → b ≡ true) → (a && b) ≡ a
and_kept true b f = f refl
and_kept false b f = refl

module _ {X : Type 0} (shard : X → ℕ) (view : X → View) where
  -- the answer to a read that is made of these
  abbrev pub answer_of : Read → List X → Answer
  answer_of r found = merged r (map (λ x. part_of_answer (shard x) (says r (view x))) found)

  -- ---- such an answer is made of its own parts

  found_matches : (p : QuadPattern Id) (q : Quad Id) (found : List X) → has (quad_order id_order) (flat_map (λ x. filter (lies_in (shard x)) (filter (matches id_order p) (view x).quads)) found) q ≡ true → matches id_order p q ≡ true
  found_matches p q [] h = absurd (let e : false ≡ true = h in (cc))
  found_matches p q (x ∷ xs) h =
      let kept = filter (matches id_order p) (view x).quads in
      let parted = sym (list_any-append _ (filter (lies_in (shard x)) kept) (flat_map (λ x. filter (lies_in (shard x)) (filter (matches id_order p) (view x).quads)) xs)) ∙ h in
      elim (or_cases _ _ parted) [
        | inl here ↦
            let both = and_parts (has (quad_order id_order) kept q) (lies_in (shard x) q) (sym (has-filter (quad_total id_total) (quad_exact id_order id_exact) (lies_in (shard x)) q kept) ∙ here) in
            (and_parts (has (quad_order id_order) (view x).quads q) (matches id_order p q) (sym (has-filter (quad_total id_total) (quad_exact id_order id_exact) (matches id_order p) q (view x).quads) ∙ both.0)).1
        | inr later ↦ found_matches p q xs later
      ]

  set_again : (p : QuadPattern Id) (qs : List (Quad Id)) → ((q : Quad Id) → has (quad_order id_order) qs q ≡ true → matches id_order p q ≡ true)
      → set_of (quad_order id_order) (flat_map (λ k. filter (lies_in k) (set_of (quad_order id_order) qs)) (shards_for p.predicate)) ≡ set_of (quad_order id_order) qs
  set_again p qs fits =
      let o = quad_total id_total in
      let exact = quad_exact id_order id_exact in
      let all = set_of (quad_order id_order) qs in
      let parts = flat_map (λ k. filter (lies_in k) all) (shards_for p.predicate) in
      same_set o exact (set_of (quad_order id_order) parts) all (sorted-set_of o parts) (sorted-set_of o qs)
      (λ q. has-set_of o q parts ∙ has-parts o exact lies_in all (shards_for p.predicate) q
      ∙ and_kept (has (quad_order id_order) all q) (list_any (λ k. lies_in k q) (shards_for p.predicate)) (λ e. home p q (fits q (sym (has-set_of o q qs) ∙ e))))

  pub whole_answer : (r : Read) (found : List X) → merged r (map (λ k. part_of_answer k (answer_of r found)) (shards_of r)) ≡ answer_of r found
  unfolding merged part_of_answer says
  whole_answer (Scan p) found =
      let qs = flat_map quads_of (map (λ x. Quads (filter (lies_in (shard x)) (filter (matches id_order p) (view x).quads))) found) in
      ap Quads
      (ap (set_of (quad_order id_order)) (flat_map-map quads_of (λ k. Quads (filter (lies_in k) (set_of (quad_order id_order) qs))) (shards_for p.predicate))
      ∙ set_again p qs (λ q e. found_matches p q found (ap (λ xs. has (quad_order id_order) xs q) (sym (flat_map-map quads_of (λ x. Quads (filter (lies_in (shard x)) (filter (matches id_order p) (view x).quads))) found)) ∙ e)))
  whole_answer (GraphIs g) found = ap Is (or-false _)
  whole_answer Graphs found =
      let names : List Id = flat_map names_of (map (λ x. part_of_answer (shard x) (says Graphs (view x))) found) in
      ap Names (ap (set_of id_order) (append-nil (set_of id_order names)) ∙ set_of-set id_total id_exact (set_of id_order names) (sorted-set_of id_total names))

  -- ---- and each of its parts is the one that was found

  abbrev Distinct : List ℕ → Type 0
  Distinct [] = Unit {0}
  Distinct (k ∷ ks) = (list_any (λ s. k == s) ks ≡ false) × Distinct ks

  distinct : (r : Read) → Distinct (shards_of r)
  distinct (Scan p) = go p.predicate
    where
      go : (o : Option Id) → Distinct (shards_for o)
      go None = (refl, (refl, (refl, (refl, (refl, (refl, (refl, (refl, (refl, (refl, (refl, (refl, (refl, (refl, (refl, (refl, tt))))))))))))))))
      go (Some x) = (refl, tt)
  distinct (GraphIs g) = (refl, tt)
  distinct Graphs = (refl, tt)

  abbrev view_of : View → ℕ → List X → View
  view_of d k [] = d
  view_of d k (x ∷ xs) = if k == shard x then view x else view_of d k xs

  abbrev EachView : View → List X → List X → Type 0
  EachView d all [] = Unit {0}
  EachView d all (y ∷ ys) = (view_of d (shard y) all ≡ view y) × EachView d all ys

  lift_view : (d : View) (x : X) (all ys : List X) → list_any (λ s. shard x == s) (map shard ys) ≡ false → EachView d all ys → EachView d (x ∷ all) ys
  lift_view d x all [] h each = tt
  lift_view d x all (y ∷ ys) h each =
      let parts = or_parts (shard x == shard y) (list_any (λ s. shard x == s) (map shard ys)) h in
      (ap (λ b. if b then view x else view_of d (shard y) all) (turned (shard x) (shard y) parts.0) ∙ each.0, lift_view d x all ys parts.1 each.1)

  each_view : (d : View) (xs : List X) → Distinct (map shard xs) → EachView d xs xs
  each_view d [] h = tt
  each_view d (x ∷ xs) h = (ap (λ b. if b then view x else view_of d (shard x) xs) (eq-eqb (shard x) (shard x) refl), lift_view d x xs xs h.0 (each_view d xs h.1))

  views_rise : (d : View) → IsRising id_order d → ((x : X) → IsRising id_order (view x)) → (k : ℕ) (xs : List X) → IsRising id_order (view_of d k xs)
  views_rise d rises each k [] = rises
  views_rise d rises each k (x ∷ xs) = at (k == shard x) (views_rise d rises each k xs)
    where
      at : (b : Bool) → IsRising id_order (view_of d k xs) → IsRising id_order (if b then view x else view_of d k xs)
      at true h = each x
      at false h = h

  as_views : (d : View) (r : Read) (all ys : List X) → EachView d all ys → map (λ y. part_of_answer (shard y) (says r (view y))) ys ≡ map (λ s. part_of_answer s (says r (view_of d s all))) (map shard ys)
  as_views d r all [] h = refl
  as_views d r all (y ∷ ys) h = λ t. part_of_answer (shard y) (says r (sym h.0 t)) ∷ as_views d r all ys h.1 t

  abbrev EachIn : List ℕ → List X → Type 0
  EachIn ks [] = Unit {0}
  EachIn ks (y ∷ ys) = (list_any (λ s. shard y == s) ks ≡ true) × EachIn ks ys

  lift_in : (k : ℕ) (ks : List ℕ) (ys : List X) → EachIn ks ys → EachIn (k ∷ ks) ys
  lift_in k ks [] h = tt
  lift_in k ks (y ∷ ys) h = (or_right (shard y == k) _ h.0, lift_in k ks ys h.1)

  each_in : (xs : List X) → EachIn (map shard xs) xs
  each_in [] = tt
  each_in (x ∷ xs) = (or_left _ _ (eq-eqb (shard x) (shard x) refl), lift_in (shard x) (map shard xs) xs (each_in xs))

  -- each of these has its part of the answer
  abbrev pub EachIs : Read → Answer → List X → Type 0
  EachIs r a [] = Unit {0}
  EachIs r a (y ∷ ys) = (part_of_answer (shard y) a ≡ part_of_answer (shard y) (says r (view y))) × EachIs r a ys

  pub each_part : (d : View) → IsRising id_order d → ((x : X) → IsRising id_order (view x)) → (r : Read) (found : List X) → map shard found ≡ shards_of r → EachIs r (answer_of r found) found
  each_part d rises each r found are =
      go found (each_view d found (subst Distinct (sym are) (distinct r))) (subst (λ (ks : List ℕ). EachIn ks found) are (each_in found))
    where
      same : EachView d found found → answer_of r found ≡ merged r (map (λ s. part_of_answer s (says r (view_of d s found))) (shards_of r))
      same h = ap (merged r) (as_views d r found found h ∙ ap (map (λ s. part_of_answer s (says r (view_of d s found)))) are)

      all : EachView d found found
      all = each_view d found (subst Distinct (sym are) (distinct r))

      go : (ys : List X) → EachView d found ys → EachIn (shards_of r) ys → EachIs r (answer_of r found) ys
      go [] h touched = tt
      go (y ∷ ys) h touched = (
        ap (part_of_answer (shard y)) (same all)
            ∙ parts_of_merged r (λ s. view_of d s found) (λ s. views_rise d rises each s found) (shard y) touched.0
            ∙ ap (λ v. part_of_answer (shard y) (says r v)) h.0,
        go ys h.1 touched.1,
      )
