-- Reads for a part of a pattern are for the pattern.
use Rattle.std.specs.Prelude.{Bool, true, ◌||◌, ◌<◌, ℕ, zero, suc, map}
use Rattle.std.specs.Ordering.{is_eq}
use Rattle.std.specs.Cmp.{tied_itself}
use Rattle.std.proofs.lemmas.Bool.{or_left, or_right}
use Rattle.std.proofs.Common.{◌≡◌, List, [], ◌∷◌, Option, Some, length, get_or, refl, ap, ◌∙◌, arith}
use Rattle.datasets.specs.declared.id.Id.{Id}
use Rattle.datasets.specs.declared.read.GraphPlace.TheVariants.{Only}
use Rattle.datasets.specs.declared.read.Read.TheVariants.{Scan, GraphIs, Graphs}
use Rattle.datasets.specs.Id.{id_order, id_total}
use Rattle.algebra.specs.Expressions.{Expression}
use Rattle.algebra.specs.Plans.{Plan, Union, InGraph, plan_of, parts_of, linked, linked_all, filtered, united_with}
use Rattle.algebra.specs.declared.pattern.Place.TheVariants as place
use Rattle.algebra.specs.declared.plan.Link.{Link}
use Rattle.algebra.specs.declared.plan.Link.TheVariants as link
use Rattle.algebra.specs.declared.plan.Plan.{Plan as Kept}
use Rattle.algebra.specs.declared.template.Slot.{Slot}
use Rattle.algebra.specs.declared.template.Slot.TheVariants as slot
use Rattle.asking.specs.Near.{is_for_plan, is_graph_written}
use Rattle.reads.specs.Reads.{Read}

-- a named graph is written by its name
pub named_here : (t : Id) → is_graph_written id_order (Some (slot.Term t)) (Only (Some t)) ≡ true
named_here t = ap is_eq (tied_itself id_total t)

module _ (written : Option (Slot Id)) where
  abbrev for : Plan Id → Read → Bool
  for p r = is_for_plan id_order written p r

  linked_is : (l : Link Id) (before p : Plan Id) (r : Read) → for (linked before l p) r ≡ (for before r || for p r)
  linked_is link.Join before p (Scan q) = refl
  linked_is link.Join before p (GraphIs g) = refl
  linked_is link.Join before p Graphs = refl
  linked_is (link.LeftJoin es) before p (Scan q) = refl
  linked_is (link.LeftJoin es) before p (GraphIs g) = refl
  linked_is (link.LeftJoin es) before p Graphs = refl
  linked_is link.Minus before p (Scan q) = refl
  linked_is link.Minus before p (GraphIs g) = refl
  linked_is link.Minus before p Graphs = refl

  -- a read for what a group goes on from, or for what it goes on with
  pub before_near : (l : Link Id) (before p : Plan Id) (r : Read) → for before r ≡ true → for (linked before l p) r ≡ true
  before_near l before p r h = linked_is l before p r ∙ or_left _ _ h

  pub next_near : (l : Link Id) (before p : Plan Id) (r : Read) → for p r ≡ true → for (linked before l p) r ≡ true
  next_near l before p r h = linked_is l before p r ∙ or_right _ _ h

  before_parts : (before : Plan Id) (parts : List (Link Id × Plan Id)) (r : Read) → for before r ≡ true → for (linked_all before parts) r ≡ true
  before_parts before [] r h = h
  before_parts before (part ∷ parts) r h =
      before_parts (linked before part.0 part.1) parts r (before_near part.0 before part.1 r h)

  -- a read for a part of a group
  pub part_near : (before : Plan Id) (parts : List (Link Id × Kept Id)) (i : ℕ) (part : Link Id × Kept Id) → i < length parts
      → (r : Read) → for (plan_of (get_or parts i part).1) r ≡ true → for (linked_all before (parts_of parts)) r ≡ true
  part_near before [] i part lt r h = absurd (omega (arith, lt))
  part_near before (p ∷ ps) zero part lt r h =
      before_parts (linked before p.0 (plan_of p.1)) (parts_of ps) r (next_near p.0 before (plan_of p.1) r h)
  part_near before (p ∷ ps) (suc i) part lt r h = part_near (linked before p.0 (plan_of p.1)) ps i part (omega (arith, lt)) r h

  union_is : (a b : Plan Id) (r : Read) → for (Union a b) r ≡ (for a r || for b r)
  union_is a b (Scan q) = refl
  union_is a b (GraphIs g) = refl
  union_is a b Graphs = refl

  -- a read for the first pattern of a union, or for another
  pub first_near : (before : Plan Id) (plans : List (Plan Id)) (r : Read) → for before r ≡ true → for (united_with before plans) r ≡ true
  first_near before [] r h = h
  first_near before (p ∷ ps) r h = first_near (Union before p) ps r (union_is before p r ∙ or_left _ _ h)

  pub other_near : (before : Plan Id) (plans : List (Kept Id)) (i : ℕ) (plan : Kept Id) → i < length plans
      → (r : Read) → for (plan_of (get_or plans i plan)) r ≡ true → for (united_with before (map plan_of plans)) r ≡ true
  other_near before [] i plan lt r h = absurd (omega (arith, lt))
  other_near before (p ∷ ps) zero plan lt r h =
      first_near (Union before (plan_of p)) (map plan_of ps) r (union_is before (plan_of p) r ∙ or_right _ _ h)
  other_near before (p ∷ ps) (suc i) plan lt r h = other_near (Union before (plan_of p)) ps i plan (omega (arith, lt)) r h

  -- a read for what filters stand over
  pub filtered_near : (es : List (Expression Id)) (p : Plan Id) (r : Read) → for p r ≡ true → for (filtered es p) r ≡ true
  filtered_near [] p r h = h
  filtered_near (e ∷ es) p (Scan q) h = h
  filtered_near (e ∷ es) p (GraphIs g) h = h
  filtered_near (e ∷ es) p Graphs h = h

  -- the name of the graph that a pattern goes into
  pub name_asked : (t : Id) (p : Plan Id) → for (InGraph (place.Term t) p) (GraphIs t) ≡ true
  name_asked t p = or_left _ _ (ap is_eq (tied_itself id_total t))

  -- a read for a pattern that is asked of a named graph, or of each
  pub named_near : (t : Id) (p : Plan Id) (r : Read) → is_for_plan id_order (Some (slot.Term t)) p r ≡ true → for (InGraph (place.Term t) p) r ≡ true
  named_near t p (Scan q) h = h
  named_near t p (GraphIs g) h = or_right _ _ h
  named_near t p Graphs h = h

  pub each_near : (v : ℕ) (p : Plan Id) (r : Read) → is_for_plan id_order (Some (slot.Variable v)) p r ≡ true → for (InGraph (place.Variable v) p) r ≡ true
  each_near v p (Scan q) h = h
  each_near v p (GraphIs g) h = h
  each_near v p Graphs h = refl
