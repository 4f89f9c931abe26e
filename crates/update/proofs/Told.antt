-- What is told of one quad.
use Rattle.std.specs.Prelude.{filter, if◌then◌else◌}
use Rattle.std.specs.List.{list_any}
use Rattle.std.specs.declared.cmp.Ordering.{Ordering}
use Rattle.std.specs.declared.cmp.Ordering.TheVariants.{Less, Equal, Greater}
use Rattle.std.specs.Ordering.{eq_by_cmp, is_eq, ordering_then, ordering_reverse}
use Rattle.std.specs.Option.{option_cmp}
use Rattle.std.specs.Cmp.{IsTotalOrder}
use Rattle.std.proofs.Common.{◌≡◌, Bool, true, false, ◌&&◌, ◌||◌, List, [], ◌∷◌, Some, refl, sym, ap, ◌∙◌}
use Rattle.sets.specs.Sets.{has}
use Rattle.datasets.specs.declared.id.Id.{Id}
use Rattle.datasets.specs.declared.quad.Quad.{Quad}
use Rattle.datasets.specs.declared.read.GraphPlace.TheVariants.{Only}
use Rattle.datasets.specs.Dataset.{Quads, quad_order, matches}
use Rattle.datasets.specs.Id.{id_order, id_total, quad_total}
use Rattle.reads.specs.Reads.{View, says}
use Rattle.reads.specs.Presence.{scan_for}
use Rattle.update.specs.Asked.{has_quads}

is_eq_then : (a b : Ordering) → is_eq (ordering_then a b) ≡ (is_eq a && is_eq b)
is_eq_then Less b = refl
is_eq_then Equal b = refl
is_eq_then Greater b = refl

is_eq_reverse : (a : Ordering) → is_eq (ordering_reverse a) ≡ is_eq a
is_eq_reverse Less = refl
is_eq_reverse Equal = refl
is_eq_reverse Greater = refl

eq_sym : {A : Type 0} {R : A → A → Ordering} (o : IsTotalOrder R) (x y : A) → eq_by_cmp R x y ≡ eq_by_cmp R y x
eq_sym {A} {R} o x y = ap is_eq (o.antisymm x y) ∙ is_eq_reverse (R y x)

any_same : {A : Type 0} (p q : A → Bool) → ((x : A) → p x ≡ q x) → (xs : List A) → list_any p xs ≡ list_any q xs
any_same p q e [] = refl
any_same p q e (x ∷ xs) = λ i. e x i || any_same p q e xs i

has_if : (b : Bool) (x : Quad Id) (xs : List (Quad Id)) → has_quads (Quads (if b then x ∷ xs else xs)) ≡ (b || has_quads (Quads xs))
has_if true x xs = refl
has_if false x xs = refl

has_some : (p : Quad Id → Bool) (xs : List (Quad Id)) → has_quads (Quads (filter p xs)) ≡ list_any p xs
has_some p [] = refl
has_some p (x ∷ xs) = has_if (p x) x (filter p xs) ∙ ap (λ b. p x || b) (has_some p xs)

-- the scan for a quad matches that quad
module _ (q : Quad Id) where
  the_scan : Quad Id → Bool
  the_scan = matches id_order (record { subject = Some q.subject; predicate = Some q.predicate; object = Some q.object; graph = Only q.graph })

  matches_it : (x : Quad Id) → the_scan x ≡ eq_by_cmp (quad_order id_order) q x
  unfolding the_scan
  matches_it x =
      (λ i. is_eq (id_order x.subject q.subject) && (is_eq (id_order x.predicate q.predicate) && sym (is_eq_then (id_order x.object q.object) (option_cmp id_order x.graph q.graph)) i))
      ∙ (λ i. is_eq (id_order x.subject q.subject) && sym (is_eq_then (id_order x.predicate q.predicate) (ordering_then (id_order x.object q.object) (option_cmp id_order x.graph q.graph))) i)
      ∙ sym (is_eq_then (id_order x.subject q.subject) (ordering_then (id_order x.predicate q.predicate) (ordering_then (id_order x.object q.object) (option_cmp id_order x.graph q.graph))))
      ∙ eq_sym (quad_total id_total) x q

  -- it tells whether the quad is there
  pub has_it : (d : View) → has_quads (says (scan_for q) d) ≡ has (quad_order id_order) d.quads q
  unfolding the_scan says
  has_it d = has_some the_scan d.quads ∙ any_same the_scan (eq_by_cmp (quad_order id_order) q) matches_it d.quads
