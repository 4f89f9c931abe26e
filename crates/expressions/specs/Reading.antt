-- Reading the productions from left to right.
use Rattle.std.specs.Prelude.{ℕ, zero, suc, [], ◌∷◌, length, Some, None}
use Rattle.std.specs.Option.{option_map_or}
use Rattle.iris.specs.Bracketed.{◌>>=◌}
use Rattle.lexer.specs.declared.token.Token.TheVariants as token
use Rattle.lexer.specs.declared.token.Sign.TheVariants as signs
use Rattle.syntax_trees.specs.declared.tree.Node.TheVariants as node
use Rattle.syntax_trees.specs.declared.expression.Level.{Level}
use Rattle.syntax_trees.specs.declared.expression.Level.TheVariants as level
use Rattle.syntax_trees.specs.declared.expression.One.{One}
use Rattle.syntax_trees.specs.declared.expression.Two.{Two}
use Rattle.syntax_trees.specs.Expressions.{Tree}
use Rattle.syntax_trees.specs.Expressions as tree
use Rattle.syntax_trees.specs.Operators.{rank}
use Rattle.productions.specs.Steps.{Reader, Found, Again}
use Rattle.productions.specs.Signs.{sign_at}
use Rattle.productions.specs.Reading.{variable_at, name_at, literal_at}
use Rattle.expressions.specs.declared.calls.Called.{Called}
use Rattle.expressions.specs.declared.calls.Called.TheVariants as called
use Rattle.expressions.specs.Operators.{operator_at}
use Rattle.expressions.specs.Calls.{called_at}
use Rattle.expressions.specs.Grammar.{ReadsConstraint}

unfoldable pub named_at : Reader Tree
named_at ts = do
  x ← name_at ts
  Some (tree.Value (node.Name x.0), x.1)

unfoldable pub quoted_at : Reader Tree
quoted_at ts = do
  x ← literal_at ts
  Some (tree.Value (node.Literal x.0), x.1)

abbrev pub value_at : Reader Tree
value_at [] = None
value_at (token.Variable v ∷ ts) = Some (tree.Value (node.Variable v), ts)
value_at (token.Iri i ∷ ts) = named_at (token.Iri i ∷ ts)
value_at (token.Name p l ∷ ts) = named_at (token.Name p l ∷ ts)
value_at ts = quoted_at ts

-- behind BOUND and '('
unfoldable pub bound_at : ℕ → Reader Tree
bound_at zero ts = None
bound_at (suc n) ts = do
  v ← variable_at ts
  rest ← sign_at signs.CloseParen v.1
  Some (tree.Bound v.0, rest)

-- behind '('
unfoldable pub closed_with : Reader Tree → Reader Tree
closed_with inner ts = do
  x ← inner ts
  rest ← sign_at signs.CloseParen x.1
  Some (x.0, rest)

-- behind a function's name and '('
unfoldable pub one_with : Reader Tree → One → Reader Tree
one_with inner f ts = do
  x ← closed_with inner ts
  Some (tree.Call f x.0, x.1)

unfoldable pub two_with : Reader Tree → Two → Reader Tree
two_with inner f ts = do
  x ← inner ts
  rest ← sign_at signs.Comma x.1
  y ← closed_with inner rest
  Some (tree.CallTwo f x.0 y.0, y.1)

abbrev pub inside_with : ℕ → Reader Tree → Called → Reader Tree
inside_with n inner called.Bound ts = bound_at n ts
inside_with n inner (called.One f) ts = one_with inner f ts
inside_with n inner (called.Two f) ts = two_with inner f ts

-- behind a function's name
unfoldable pub arguments_with : ℕ → Reader Tree → Called → Reader Tree
arguments_with n inner c ts = do
  r ← sign_at signs.OpenParen ts
  inside_with n inner c r

unfoldable pub primary_with : ℕ → Reader Tree → Reader Tree
primary_with n inner ts = option_map_or (closed_with inner) (sign_at signs.OpenParen ts) (option_map_or (λ c. arguments_with n inner c.0 c.1) (called_at ts) (value_at ts))

unfoldable pub not_with : ℕ → Reader Tree → Reader Tree
not_with n inner ts = option_map_or (λ r. primary_with n inner r >>= λ x. Some (tree.Not x.0, x.1)) (sign_at signs.Bang ts) (primary_with n inner ts)

-- with k steps at most
abbrev pub more_with : Reader Tree → ℕ → ℕ → Tree → Reader Tree
more_with item r zero e ts = Some (e, ts)
more_with item r (suc k) e ts = option_map_or (λ o. item o.1 >>= λ x. more_with item r k (tree.Binary o.0 e x.0) x.1) (operator_at r ts) (Some (e, ts))

unfoldable pub chain_with : Reader Tree → ℕ → Reader Tree
chain_with item r ts = do
  x ← item ts
  more_with item r (length x.1) x.0 x.1

unfoldable pub once_with : Reader Tree → ℕ → Reader Tree
once_with item r ts = do
  x ← item ts
  option_map_or (λ o. item o.1 >>= λ y. Some (tree.Binary o.0 x.0 y.0, y.1)) (operator_at r x.1) (Some x)

-- what stands between the operators of a level
abbrev pub operand_with : ℕ → Reader Tree → Level → Reader Tree
operand_with n inner level.Product = not_with n inner
operand_with n inner level.Sum = chain_with (not_with n inner) 5
operand_with n inner level.Relation = chain_with (chain_with (not_with n inner) 5) 4
operand_with n inner level.And = once_with (chain_with (chain_with (not_with n inner) 5) 4) 3
operand_with n inner level.Or = chain_with (once_with (chain_with (chain_with (not_with n inner) 5) 4) 3) 2

-- Item { operator Item } at a level
abbrev pub level_with : ℕ → Reader Tree → Level → Reader Tree
level_with n inner l = chain_with (operand_with n inner l) (rank l)

-- in parentheses that nest at most n deep, those round it included
unfoldable pub expression_at : ℕ → Reader Tree
expression_at zero ts = None
expression_at (suc n) ts = level_with n (expression_at n) level.Or ts

unfoldable pub call_at : ℕ → Reader Tree
call_at n ts = option_map_or (λ c. arguments_with n (expression_at n) c.0 c.1) (called_at ts) None

unfoldable pub constraint_at : ℕ → Reader Tree
constraint_at n ts = option_map_or (closed_with (expression_at n)) (sign_at signs.OpenParen ts) (call_at n ts)

-- what is read as a constraint is one
abbrev pub ConstraintsAreFound : Type 0
ConstraintsAreFound = (n : ℕ) → Found (constraint_at n) (ReadsConstraint n)

-- a constraint is read, whatever follows it
abbrev pub ConstraintsAreRead : Type 0
ConstraintsAreRead = (n : ℕ) → Again (constraint_at n) (ReadsConstraint n)
