-- What the lemmas of a production say, and how tightly an operator at the front binds.
use Rattle.std.proofs.Common.{◌≡◌, ℕ, ◌≤◌, ◌<◌, List, [], ◌∷◌, length, Option, Some, None}
use Rattle.lexer.specs.declared.token.Token.{Token}
use Rattle.syntax_trees.specs.declared.expression.Operator.{Operator}
use Rattle.syntax_trees.specs.declared.expression.Level.{Level}
use Rattle.syntax_trees.specs.declared.expression.Level.TheVariants as level
use Rattle.syntax_trees.specs.Expressions.{Tree}
use Rattle.syntax_trees.specs.Operators.{rank, level_of}
use Rattle.productions.specs.Steps.{Production, Reader}
use Rattle.expressions.specs.Operators.{operator_of}

-- the measure of the recursion at one depth
abbrev pub weight : Level → ℕ
weight level.Or = 15
weight level.And = 13
weight level.Relation = 10
weight level.Sum = 8
weight level.Product = 6

abbrev pub binding : Option Operator → ℕ
binding None = 0
binding (Some o) = rank (level_of o)

abbrev pub front_rank : List Token → ℕ
front_rank [] = 0
front_rank (t ∷ ts) = binding (operator_of t)

-- what is in the grammar is read, where no operator of a rank above n follows
abbrev pub AgainBelow : ℕ → Reader Tree → Production Tree → Type 0
AgainBelow n item P = (ts : List Token) (e : Tree) (rest : List Token) → P ts e rest → front_rank rest ≤ n → item ts ≡ Some (e, rest)

abbrev pub Shrinks : Reader Tree → Type 0
Shrinks item = (ts : List Token) (x : Tree × List Token) → item ts ≡ Some x → length x.1 < length ts
