-- The grammar of filter expressions, by its productions (SPARQL 1.1 Query, 19.8, productions 69 and
-- 110 to 121, in this profile). `ReadsX .. ts e rest`: the production reads e at the front of the
-- tokens ts, and rest follows. `Inner` is an expression in parentheses, and n is how deep
-- parentheses may nest.
use Rattle.std.specs.Prelude.{ℕ, zero, suc, ◌≡◌, ◌<◌, true, List, ◌∷◌, Some, codes}
use Rattle.lexer.specs.declared.token.Token.{Token}
use Rattle.lexer.specs.declared.token.Token.TheVariants as token
use Rattle.lexer.specs.declared.token.Sign.TheVariants as signs
use Rattle.syntax_trees.specs.declared.tree.Name.{Name}
use Rattle.syntax_trees.specs.declared.tree.Literal.{Literal}
use Rattle.syntax_trees.specs.declared.tree.Node.TheVariants as node
use Rattle.syntax_trees.specs.declared.expression.Operator.{Operator}
use Rattle.syntax_trees.specs.declared.expression.Level.TheVariants as level
use Rattle.syntax_trees.specs.declared.expression.One.{One}
use Rattle.syntax_trees.specs.declared.expression.Two.{Two}
use Rattle.syntax_trees.specs.Expressions.{Tree}
use Rattle.syntax_trees.specs.Expressions as tree
use Rattle.syntax_trees.specs.Operators.{rank, level_of}
use Rattle.productions.specs.Steps.{Production}
use Rattle.productions.specs.Keywords.{is_keyword}
use Rattle.productions.specs.Names.{ReadsName, ReadsLiteral}
use Rattle.expressions.specs.Operators.{operator_of}
use Rattle.expressions.specs.Calls.{one_name, two_name}

-- Call = 'BOUND' '(' variable ')' | One '(' Expr ')' | Two '(' Expr ',' Expr ')'
pub data ReadsCall (n : ℕ) (Inner : Production Tree) : List Token → Tree → List Token → Type 0 where
  bound : {w v : List ℕ} {rest : List Token} → is_keyword w (codes "BOUND") ≡ true → 0 < n
      → ReadsCall n Inner (token.Word w ∷ token.Sign signs.OpenParen ∷ token.Variable v ∷ token.Sign signs.CloseParen ∷ rest) (tree.Bound v) rest
  one : {w : List ℕ} {ts rest : List Token} {f : One} {e : Tree} → is_keyword w (one_name f) ≡ true → Inner ts e (token.Sign signs.CloseParen ∷ rest)
      → ReadsCall n Inner (token.Word w ∷ token.Sign signs.OpenParen ∷ ts) (tree.Call f e) rest
  two : {w : List ℕ} {ts us rest : List Token} {f : Two} {d e : Tree} → is_keyword w (two_name f) ≡ true → Inner ts d (token.Sign signs.Comma ∷ us) → Inner us e (token.Sign signs.CloseParen ∷ rest)
      → ReadsCall n Inner (token.Word w ∷ token.Sign signs.OpenParen ∷ ts) (tree.CallTwo f d e) rest

-- Primary = '(' Expr ')' | Call | Iri | Literal | variable
pub data ReadsPrimary (n : ℕ) (Inner : Production Tree) : List Token → Tree → List Token → Type 0 where
  parens : {ts rest : List Token} {e : Tree} → Inner ts e (token.Sign signs.CloseParen ∷ rest) → ReadsPrimary n Inner (token.Sign signs.OpenParen ∷ ts) e rest
  called : {ts rest : List Token} {e : Tree} → ReadsCall n Inner ts e rest → ReadsPrimary n Inner ts e rest
  named : {ts rest : List Token} {x : Name} → ReadsName ts x rest → ReadsPrimary n Inner ts (tree.Value (node.Name x)) rest
  quoted : {ts rest : List Token} {x : Literal} → ReadsLiteral ts x rest → ReadsPrimary n Inner ts (tree.Value (node.Literal x)) rest
  variable : {v : List ℕ} {rest : List Token} → ReadsPrimary n Inner (token.Variable v ∷ rest) (tree.Value (node.Variable v)) rest

-- Not = ['!'] Primary
pub data ReadsNot (n : ℕ) (Inner : Production Tree) : List Token → Tree → List Token → Type 0 where
  plain : {ts rest : List Token} {e : Tree} → ReadsPrimary n Inner ts e rest → ReadsNot n Inner ts e rest
  negated : {ts rest : List Token} {e : Tree} → ReadsPrimary n Inner ts e rest → ReadsNot n Inner (token.Sign signs.Bang ∷ ts) (tree.Not e) rest

-- the token is an operator of rank r
pub record IsOperator (r : ℕ) (t : Token) (o : Operator) : Type 0 where
  pub is : operator_of t ≡ Some o
  pub binds : rank (level_of o) ≡ r

-- { operator Item }, behind the left operand e
pub data ReadsMore (Item : Production Tree) (r : ℕ) : List Token → Tree → Tree → List Token → Type 0 where
  done : {rest : List Token} {e : Tree} → ReadsMore Item r rest e e rest
  more : {t : Token} {ts us rest : List Token} {o : Operator} {e f g : Tree} → IsOperator r t o → Item ts f us → ReadsMore Item r us (tree.Binary o e f) g rest → ReadsMore Item r (t ∷ ts) e g rest

-- Item { operator Item }, from left to right
pub data ReadsChain (Item : Production Tree) (r : ℕ) : List Token → Tree → List Token → Type 0 where
  chain : {ts us rest : List Token} {e f : Tree} → Item ts e us → ReadsMore Item r us e f rest → ReadsChain Item r ts f rest

-- Item [ operator Item ]
pub data ReadsOnce (Item : Production Tree) (r : ℕ) : List Token → Tree → List Token → Type 0 where
  alone : {ts rest : List Token} {e : Tree} → Item ts e rest → ReadsOnce Item r ts e rest
  pair : {t : Token} {ts us rest : List Token} {o : Operator} {e f : Tree} → Item ts e (t ∷ us) → IsOperator r t o → Item us f rest → ReadsOnce Item r ts (tree.Binary o e f) rest

-- Prod = Not { '*' Not }
abbrev pub ReadsProduct : ℕ → Production Tree → Production Tree
ReadsProduct n Inner = ReadsChain (ReadsNot n Inner) (rank level.Product)

-- Sum = Prod { ('+' | '-') Prod }
abbrev pub ReadsSum : ℕ → Production Tree → Production Tree
ReadsSum n Inner = ReadsChain (ReadsProduct n Inner) (rank level.Sum)

-- Rel = Sum [ ('=' | '!=' | '<' | '>' | '<=' | '>=') Sum ]
abbrev pub ReadsRelation : ℕ → Production Tree → Production Tree
ReadsRelation n Inner = ReadsOnce (ReadsSum n Inner) (rank level.Relation)

-- And = Rel { '&&' Rel }
abbrev pub ReadsAnd : ℕ → Production Tree → Production Tree
ReadsAnd n Inner = ReadsChain (ReadsRelation n Inner) (rank level.And)

-- Or = And { '||' And }
abbrev pub ReadsOr : ℕ → Production Tree → Production Tree
ReadsOr n Inner = ReadsChain (ReadsAnd n Inner) (rank level.Or)

-- Expr = Or, in parentheses that nest at most n deep, those round it included
unfoldable pub ReadsExpression : ℕ → Production Tree
ReadsExpression zero ts e rest = ⊥
ReadsExpression (suc n) ts e rest = ReadsOr n (ReadsExpression n) ts e rest

-- what may follow FILTER: '(' Expr ')' | Call
pub data ReadsConstraint (n : ℕ) : List Token → Tree → List Token → Type 0 where
  bracketed : {ts rest : List Token} {e : Tree} → ReadsExpression n ts e (token.Sign signs.CloseParen ∷ rest) → ReadsConstraint n (token.Sign signs.OpenParen ∷ ts) e rest
  call : {ts rest : List Token} {e : Tree} → ReadsCall n (ReadsExpression n) ts e rest → ReadsConstraint n ts e rest
