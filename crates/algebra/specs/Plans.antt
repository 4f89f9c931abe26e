-- Graph patterns, wherever they lie in memory.
use Rattle.std.specs.Prelude.{List, [], ◌∷◌, map}
use Rattle.algebra.specs.declared.pattern.Place.{Place}
use Rattle.algebra.specs.declared.pattern.TriplePattern.{TriplePattern}
use Rattle.algebra.specs.declared.plan.Link.{Link}
use Rattle.algebra.specs.declared.plan.Link.TheVariants as link
use Rattle.algebra.specs.declared.plan.Plan.{Plan as Kept, fold-Plan}
use Rattle.algebra.specs.declared.plan.Plan.TheOpen.{Plan-F}
use Rattle.algebra.specs.Expressions.{Expression, expression_of}

pub data Plan (K : Type 0) : Type 0 where
  Basic : List (TriplePattern K) → Plan K
  Join : Plan K → Plan K → Plan K
  LeftJoin : Plan K → Plan K → List (Expression K) → Plan K
  Union : Plan K → Plan K → Plan K
  Minus : Plan K → Plan K → Plan K
  Filter : List (Expression K) → Plan K → Plan K
  InGraph : Place K → Plan K → Plan K

module _ {K : Type 0} where
  -- the empty group
  abbrev pub nothing : Plan K
  nothing = Basic []

  abbrev pub linked : Plan K → Link K → Plan K → Plan K
  linked before link.Join p = Join before p
  linked before (link.LeftJoin es) p = LeftJoin before p (map expression_of es.items)
  linked before link.Minus p = Minus before p

  -- what stands before, and then patterns in order
  abbrev pub linked_all : Plan K → List (Link K × Plan K) → Plan K
  linked_all before [] = before
  linked_all before (part ∷ parts) = linked_all (linked before part.0 part.1) parts

  -- filters over a pattern, where there are any
  abbrev pub filtered : List (Expression K) → Plan K → Plan K
  filtered [] p = p
  filtered (e ∷ es) p = Filter (e ∷ es) p

  -- patterns from left to right
  abbrev pub united_with : Plan K → List (Plan K) → Plan K
  united_with p [] = p
  united_with p (q ∷ qs) = united_with (Union p q) qs

  abbrev pub united : List (Plan K) → Plan K
  united [] = nothing
  united (p ∷ ps) = united_with p ps

  -- one level, with each pattern inside already seen
  abbrev pub plan_step : Plan-F K (Plan K) → Plan K
  plan_step (Plan-F.Basic ts) = Basic ts
  plan_step (Plan-F.Group parts es) = filtered (map expression_of es.items) (linked_all nothing parts.items)
  plan_step (Plan-F.Union ps) = united ps.items
  plan_step (Plan-F.InGraph n p) = InGraph n p.value

  abbrev pub plan_of : Kept K → Plan K
  plan_of = fold-Plan K (Plan K) plan_step

  abbrev pub parts_of : List (Link K × Kept K) → List (Link K × Plan K)
  parts_of parts = map (λ (p : Link K × Kept K). (p.0, plan_of p.1)) parts
