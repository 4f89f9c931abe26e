-- The operators that signs are.
use Rattle.std.specs.Prelude.{ℕ, ◌==◌, List, [], ◌∷◌, Option, Some, None, if◌then◌else◌}
use Rattle.iris.specs.Bracketed.{◌>>=◌}
use Rattle.lexer.specs.declared.token.Token.{Token}
use Rattle.lexer.specs.declared.token.Token.TheVariants as token
use Rattle.lexer.specs.declared.token.Sign.TheVariants as signs
use Rattle.syntax_trees.specs.declared.expression.Operator.{Operator}
use Rattle.syntax_trees.specs.declared.expression.Operator.TheVariants as operator
use Rattle.syntax_trees.specs.Operators.{rank, level_of}

abbrev pub operator_of : Token → Option Operator
operator_of (token.Sign signs.Bars) = Some operator.Or
operator_of (token.Sign signs.Ampersands) = Some operator.And
operator_of (token.Sign signs.Equal) = Some operator.Equal
operator_of (token.Sign signs.NotEqual) = Some operator.NotEqual
operator_of (token.Sign signs.Less) = Some operator.Less
operator_of (token.Sign signs.Greater) = Some operator.Greater
operator_of (token.Sign signs.LessEqual) = Some operator.LessEqual
operator_of (token.Sign signs.GreaterEqual) = Some operator.GreaterEqual
operator_of (token.Sign signs.Plus) = Some operator.Plus
operator_of (token.Sign signs.Minus) = Some operator.Minus
operator_of (token.Sign signs.Star) = Some operator.Times
operator_of t = None

-- an operator of rank n, and what follows it
abbrev pub operator_at : ℕ → List Token → Option (Operator × List Token)
operator_at n [] = None
operator_at n (t ∷ ts) = operator_of t >>= λ o. if rank (level_of o) == n then Some (o, ts) else None
