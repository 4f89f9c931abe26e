-- The translation of groups to the algebra (SPARQL 1.1 Query, 18.2.2).
use Rattle.std.specs.Prelude.{ℕ, List, [], ◌∷◌, ◌++◌, Option, Some, None}
use Rattle.terms.specs.declared.term.Term.{Term}
use Rattle.algebra.specs.declared.expression.OneOperator.{OneOperator}
use Rattle.algebra.specs.declared.expression.OneOperator.TheVariants as one_made
use Rattle.algebra.specs.declared.expression.TwoOperator.{TwoOperator}
use Rattle.algebra.specs.declared.expression.TwoOperator.TheVariants as two_made
use Rattle.algebra.specs.Expressions as made
use Rattle.algebra.specs.Expressions.{Expression}
use Rattle.algebra.specs.Plans as plan
use Rattle.algebra.specs.Plans.{Plan, nothing, filtered, united}
use Rattle.syntax_trees.specs.declared.tree.Node.{Node}
use Rattle.syntax_trees.specs.declared.tree.Node.TheVariants as node
use Rattle.syntax_trees.specs.declared.tree.Block.{Block}
use Rattle.syntax_trees.specs.declared.expression.Operator.{Operator}
use Rattle.syntax_trees.specs.declared.expression.Operator.TheVariants as operator
use Rattle.syntax_trees.specs.declared.expression.One.{One}
use Rattle.syntax_trees.specs.declared.expression.One.TheVariants as one
use Rattle.syntax_trees.specs.declared.expression.Two.{Two}
use Rattle.syntax_trees.specs.declared.expression.Two.TheVariants as two
use Rattle.syntax_trees.specs.Expressions as tree
use Rattle.syntax_trees.specs.Expressions.{Tree}
use Rattle.syntax_trees.specs.Groups as part
use Rattle.syntax_trees.specs.Groups.{Part, Parts, Groups}
use Rattle.names.specs.Names.{Prefixes, term_of}
use Rattle.names.specs.Numbers.{number_of}
use Rattle.group_translation.specs.Triples.{place_of, patterns_of}

-- ---- expressions

abbrev pub operator_of : Operator → TwoOperator
operator_of operator.Or = two_made.Or
operator_of operator.And = two_made.And
operator_of operator.Equal = two_made.Equal
operator_of operator.NotEqual = two_made.NotEqual
operator_of operator.Less = two_made.Less
operator_of operator.Greater = two_made.Greater
operator_of operator.LessEqual = two_made.LessEqual
operator_of operator.GreaterEqual = two_made.GreaterEqual
operator_of operator.Plus = two_made.Plus
operator_of operator.Minus = two_made.Minus
operator_of operator.Times = two_made.Times

abbrev pub function_of : One → OneOperator
function_of one.IsIri = one_made.IsIri
function_of one.IsBlank = one_made.IsBlank
function_of one.IsLiteral = one_made.IsLiteral
function_of one.Str = one_made.Str
function_of one.Lang = one_made.Lang
function_of one.Datatype = one_made.Datatype
function_of one.StrLen = one_made.StrLen

abbrev pub function_of_two : Two → TwoOperator
function_of_two two.SameTerm = two_made.SameTerm
function_of_two two.StrStarts = two_made.StrStarts
function_of_two two.StrEnds = two_made.StrEnds
function_of_two two.Contains = two_made.Contains

module _ (ds : Prefixes) (vs : List (List ℕ)) where
  abbrev pub value_of : Node → Expression Term
  value_of (node.Variable v) = made.Variable (number_of vs v)
  value_of (node.Name n) = made.Constant (term_of ds (node.Name n))
  value_of node.Type = made.Constant (term_of ds node.Type)
  value_of (node.Blank l) = made.Constant (term_of ds (node.Blank l))
  value_of (node.Literal l) = made.Constant (term_of ds (node.Literal l))

  abbrev pub translated_tree : Tree → Expression Term
  translated_tree (tree.Binary o e f) = made.Two (operator_of o) (translated_tree e) (translated_tree f)
  translated_tree (tree.Not e) = made.One one_made.Not (translated_tree e)
  translated_tree (tree.Value n) = value_of n
  translated_tree (tree.Bound v) = made.Bound (number_of vs v)
  translated_tree (tree.Call c e) = made.One (function_of c) (translated_tree e)
  translated_tree (tree.CallTwo c e f) = made.Two (function_of_two c) (translated_tree e) (translated_tree f)

  -- ---- groups

  abbrev pub filter_of : Part → List (Expression Term)
  filter_of (part.Filter e) = translated_tree e ∷ []
  filter_of (part.Triples xs) = []
  filter_of (part.Union gs) = []
  filter_of (part.Optional g) = []
  filter_of (part.Minus g) = []
  filter_of (part.InGraph n g) = []

  -- the filters written directly in a group
  abbrev pub filters_of : Parts → List (Expression Term)
  filters_of part.End = []
  filters_of (part.Next p g) = filter_of p ++ filters_of g

  abbrev mutual
    -- what stands before, and then this part: OPTIONAL has the filters of its group as condition,
    -- and filters come last
    pub with_part : Plan Term → Part → Plan Term
    with_part before (part.Triples xs) = plan.Join before (plan.Basic (patterns_of ds vs xs))
    with_part before (part.Union gs) = plan.Join before (united (translated_groups gs))
    with_part before (part.Optional g) = plan.LeftJoin before (with_parts nothing g) (filters_of g)
    with_part before (part.Minus g) = plan.Minus before (filtered (filters_of g) (with_parts nothing g))
    with_part before (part.InGraph n g) = plan.Join before (plan.InGraph (place_of ds vs n) (filtered (filters_of g) (with_parts nothing g)))
    with_part before (part.Filter e) = before

    -- what stands before, and then a group's parts in order
    pub with_parts : Plan Term → Parts → Plan Term
    with_parts before part.End = before
    with_parts before (part.Next p g) = with_parts (with_part before p) g

    -- the groups of a union
    pub translated_groups : Groups → List (Plan Term)
    translated_groups part.Last = []
    translated_groups (part.Or g gs) = filtered (filters_of g) (with_parts nothing g) ∷ translated_groups gs

  -- a group starts from the empty group, and its own filters come last
  abbrev pub translated_group : Parts → Plan Term
  translated_group g = filtered (filters_of g) (with_parts nothing g)

  -- ---- quads as a pattern: their triples, and their GRAPH blocks, joined in order

  abbrev pub block_in : Option Node → Plan Term → Plan Term
  block_in None p = p
  block_in (Some n) p = plan.InGraph (place_of ds vs n) p

  abbrev pub with_block : Plan Term → Block → Plan Term
  with_block before b = plan.Join before (block_in b.graph (plan.Basic (patterns_of ds vs b.triples)))

  abbrev pub with_blocks : Plan Term → List Block → Plan Term
  with_blocks before [] = before
  with_blocks before (b ∷ bs) = with_blocks (with_block before b) bs

  abbrev pub quads_pattern : List Block → Plan Term
  quads_pattern bs = with_blocks nothing bs
