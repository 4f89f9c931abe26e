-- What holds of each term in a pattern or a template (T), of the number of each variable in it (N),
-- and of each label's in a template (L).
use Rattle.std.specs.Prelude.{ℕ, IfSome}
use Rattle.std.specs.List.{AllByRecursion}
use Rattle.algebra.specs.declared.pattern.Place.{Place}
use Rattle.algebra.specs.declared.pattern.Place.TheVariants as place
use Rattle.algebra.specs.declared.pattern.TriplePattern.{TriplePattern}
use Rattle.algebra.specs.declared.template.Slot.{Slot}
use Rattle.algebra.specs.declared.template.Slot.TheVariants as slot
use Rattle.algebra.specs.declared.template.QuadTemplate.{QuadTemplate}
use Rattle.algebra.specs.Expressions.{Expression, Constant, Variable, Bound, One, Two}
use Rattle.algebra.specs.Plans.{Plan, Basic, Join, LeftJoin, Union, Minus, Filter, InGraph}

-- ---- patterns

module _ {K : Type 0} (T : K → Type 0) (N : ℕ → Type 0) where
  abbrev pub EachOfPlace : Place K → Type 0
  EachOfPlace (place.Term t) = T t
  EachOfPlace (place.Variable v) = N v

  abbrev pub EachOfTriple : TriplePattern K → Type 0
  EachOfTriple t = EachOfPlace t.subject × EachOfPlace t.predicate × EachOfPlace t.object

  abbrev pub EachOfExpression : Expression K → Type 0
  EachOfExpression (Constant t) = T t
  EachOfExpression (Variable v) = N v
  EachOfExpression (Bound v) = N v
  EachOfExpression (One o e) = EachOfExpression e
  EachOfExpression (Two o e f) = EachOfExpression e × EachOfExpression f

  abbrev pub EachOfPlan : Plan K → Type 0
  EachOfPlan (Basic ts) = AllByRecursion EachOfTriple ts
  EachOfPlan (Join a b) = EachOfPlan a × EachOfPlan b
  EachOfPlan (LeftJoin a b es) = EachOfPlan a × EachOfPlan b × AllByRecursion EachOfExpression es
  EachOfPlan (Union a b) = EachOfPlan a × EachOfPlan b
  EachOfPlan (Minus a b) = EachOfPlan a × EachOfPlan b
  EachOfPlan (Filter es a) = EachOfPlan a × AllByRecursion EachOfExpression es
  EachOfPlan (InGraph n a) = EachOfPlace n × EachOfPlan a

-- ---- templates

module _ {K : Type 0} (T : K → Type 0) (N L : ℕ → Type 0) where
  abbrev pub EachOfSlot : Slot K → Type 0
  EachOfSlot (slot.Term t) = T t
  EachOfSlot (slot.Variable v) = N v
  EachOfSlot (slot.Label l) = L l

  abbrev pub EachOfQuad : QuadTemplate K → Type 0
  EachOfQuad q = EachOfSlot q.subject × EachOfSlot q.predicate × EachOfSlot q.object × IfSome q.graph EachOfSlot
