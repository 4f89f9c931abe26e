-- What the definitions need to know of terms. They are read at terms, and code is proved at numbers
-- of terms.
use Rattle.std.specs.Prelude.{ℕ, Bool, List, Option}
use Rattle.std.specs.declared.cmp.Ordering.{Ordering}
use Rattle.algebra.specs.Expressions.{Expression}

-- the order of terms, their kinds, the blank node that a request makes for a label of an operation
-- and the rank of a solution, and whether a mapping passes a filter: whether the filter's effective
-- value under it is true
pub record Vocabulary (K : Type 0) : Type 0 where
  pub order : K → K → Ordering
  pub is_iri : K → Bool
  pub is_literal : K → Bool
  pub made : (request operation label rank : ℕ) → K
  pub passes : Expression K → List (Option K) → Bool
