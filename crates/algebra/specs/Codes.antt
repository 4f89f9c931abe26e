-- A code of patterns: the symbols of a pattern in order, each before its parts, from which the
-- pattern is built again from the right.
use Rattle.std.specs.Prelude.{ℕ, ◌≡◌, List, [], ◌∷◌, refl}
use Rattle.std.proofs.Common.{ap, ◌∙◌}
use Rattle.std.specs.Coded.{Coded, code_by}
use Rattle.algebra.specs.declared.pattern.Place.{Place}
use Rattle.algebra.specs.declared.pattern.TriplePattern.{TriplePattern}
use Rattle.algebra.specs.declared.expression.OneOperator.{OneOperator}
use Rattle.algebra.specs.declared.expression.TwoOperator.{TwoOperator}
use Rattle.algebra.specs.Expressions as expression
use Rattle.algebra.specs.Expressions.{Expression}
use Rattle.algebra.specs.Plans as plan
use Rattle.algebra.specs.Plans.{Plan}

pub data Symbol (K : Type 0) : Type 0 where
  Constant : K → Symbol K
  Variable : ℕ → Symbol K
  Bound : ℕ → Symbol K
  One : OneOperator → Symbol K
  Two : TwoOperator → Symbol K
  End : Symbol K
  Next : Symbol K
  Basic : List (TriplePattern K) → Symbol K
  Join : Symbol K
  LeftJoin : Symbol K
  Union : Symbol K
  Minus : Symbol K
  Filter : Symbol K
  InGraph : Place K → Symbol K

pub data Item (K : Type 0) : Type 0 where
  of_expression : Expression K → Item K
  of_list : List (Expression K) → Item K
  of_plan : Plan K → Item K

module _ {K : Type 0} where
  -- ---- the symbols, before others

  abbrev expression_symbols : Expression K → List (Symbol K) → List (Symbol K)
  expression_symbols (expression.Constant t) k = Constant t ∷ k
  expression_symbols (expression.Variable v) k = Variable v ∷ k
  expression_symbols (expression.Bound v) k = Bound v ∷ k
  expression_symbols (expression.One o e) k = One o ∷ expression_symbols e k
  expression_symbols (expression.Two o e f) k = Two o ∷ expression_symbols e (expression_symbols f k)

  abbrev list_symbols : List (Expression K) → List (Symbol K) → List (Symbol K)
  list_symbols [] k = End ∷ k
  list_symbols (e ∷ es) k = Next ∷ expression_symbols e (list_symbols es k)

  abbrev plan_symbols : Plan K → List (Symbol K) → List (Symbol K)
  plan_symbols (plan.Basic ts) k = Basic ts ∷ k
  plan_symbols (plan.Join a b) k = Join ∷ plan_symbols a (plan_symbols b k)
  plan_symbols (plan.LeftJoin a b es) k = LeftJoin ∷ plan_symbols a (plan_symbols b (list_symbols es k))
  plan_symbols (plan.Union a b) k = Union ∷ plan_symbols a (plan_symbols b k)
  plan_symbols (plan.Minus a b) k = Minus ∷ plan_symbols a (plan_symbols b k)
  plan_symbols (plan.Filter es a) k = Filter ∷ list_symbols es (plan_symbols a k)
  plan_symbols (plan.InGraph n a) k = InGraph n ∷ plan_symbols a k

  -- ---- what they build

  abbrev place : Symbol K → List (Item K) → List (Item K)
  place (Constant t) s = of_expression (expression.Constant t) ∷ s
  place (Variable v) s = of_expression (expression.Variable v) ∷ s
  place (Bound v) s = of_expression (expression.Bound v) ∷ s
  place (One o) (of_expression e ∷ s) = of_expression (expression.One o e) ∷ s
  place (Two o) (of_expression e ∷ of_expression f ∷ s) = of_expression (expression.Two o e f) ∷ s
  place End s = of_list [] ∷ s
  place Next (of_expression e ∷ of_list es ∷ s) = of_list (e ∷ es) ∷ s
  place (Basic ts) s = of_plan (plan.Basic ts) ∷ s
  place Join (of_plan a ∷ of_plan b ∷ s) = of_plan (plan.Join a b) ∷ s
  place LeftJoin (of_plan a ∷ of_plan b ∷ of_list es ∷ s) = of_plan (plan.LeftJoin a b es) ∷ s
  place Union (of_plan a ∷ of_plan b ∷ s) = of_plan (plan.Union a b) ∷ s
  place Minus (of_plan a ∷ of_plan b ∷ s) = of_plan (plan.Minus a b) ∷ s
  place Filter (of_list es ∷ of_plan a ∷ s) = of_plan (plan.Filter es a) ∷ s
  place (InGraph n) (of_plan a ∷ s) = of_plan (plan.InGraph n a) ∷ s
  place x s = s

  abbrev built : List (Symbol K) → List (Item K)
  built [] = []
  built (x ∷ xs) = place x (built xs)

  expression_built : (e : Expression K) (k : List (Symbol K)) → built (expression_symbols e k) ≡ of_expression e ∷ built k
  expression_built (expression.Constant t) k = refl
  expression_built (expression.Variable v) k = refl
  expression_built (expression.Bound v) k = refl
  expression_built (expression.One o e) k = ap (place (One o)) (expression_built e k)
  expression_built (expression.Two o e f) k = ap (place (Two o)) (expression_built e (expression_symbols f k) ∙ ap (λ s. of_expression e ∷ s) (expression_built f k))

  list_built : (es : List (Expression K)) (k : List (Symbol K)) → built (list_symbols es k) ≡ of_list es ∷ built k
  list_built [] k = refl
  list_built (e ∷ es) k = ap (place Next) (expression_built e (list_symbols es k) ∙ ap (λ s. of_expression e ∷ s) (list_built es k))

  plan_built : (p : Plan K) (k : List (Symbol K)) → built (plan_symbols p k) ≡ of_plan p ∷ built k
  plan_built (plan.Basic ts) k = refl
  plan_built (plan.Join a b) k = ap (place Join) (plan_built a (plan_symbols b k) ∙ ap (λ s. of_plan a ∷ s) (plan_built b k))
  plan_built (plan.LeftJoin a b es) k =
      ap (place LeftJoin) (plan_built a (plan_symbols b (list_symbols es k)) ∙ ap (λ s. of_plan a ∷ s) (plan_built b (list_symbols es k) ∙ ap (λ s. of_plan b ∷ s) (list_built es k)))
  plan_built (plan.Union a b) k = ap (place Union) (plan_built a (plan_symbols b k) ∙ ap (λ s. of_plan a ∷ s) (plan_built b k))
  plan_built (plan.Minus a b) k = ap (place Minus) (plan_built a (plan_symbols b k) ∙ ap (λ s. of_plan a ∷ s) (plan_built b k))
  plan_built (plan.Filter es a) k = ap (place Filter) (list_built es (plan_symbols a k) ∙ ap (λ s. of_list es ∷ s) (plan_built a k))
  plan_built (plan.InGraph n a) k = ap (place (InGraph n)) (plan_built a k)

  -- ---- the code

  abbrev plan_in : List (Item K) → Plan K
  plan_in (of_plan p ∷ s) = p
  plan_in s = plan.Basic []

  abbrev symbols_of : Plan K → List (Symbol K)
  symbols_of p = plan_symbols p []

  pub plan_code : Coded (List (Symbol K)) → Coded (Plan K)
  plan_code code = code_by (List (Symbol K)) code symbols_of (λ xs. plan_in (built xs)) (λ p. ap plan_in (plan_built p []))
