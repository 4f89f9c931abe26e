-- The levels of operators, and what stands in parentheses: what is read is in the grammar, and what
-- is in it is read.
use Rattle.std.proofs.Common.{ℕ, zero, suc}
use Rattle.syntax_trees.specs.declared.expression.Level.{Level}
use Rattle.syntax_trees.specs.declared.expression.Level.TheVariants as level
use Rattle.syntax_trees.specs.Expressions.{Tree}
use Rattle.productions.specs.Steps.{Production, Reader, Found, Takes}
use Rattle.expressions.specs.Grammar.{ReadsNot, ReadsProduct, ReadsSum, ReadsRelation, ReadsAnd, ReadsOr, ReadsExpression}
use Rattle.expressions.specs.Reading.{not_with, operand_with, level_with, expression_at}
use Rattle.expressions.proofs.Words.{AgainBelow, Shrinks}
use Rattle.expressions.proofs.ChainLaws.{chain_found, chain_takes, chain_again, once_found, once_takes, once_again}
use Rattle.expressions.proofs.Primaries.{not_found, not_takes, not_again}

-- what stands between the operators of a level
abbrev OperandAt : ℕ → Production Tree → Level → Production Tree
OperandAt n I level.Product = ReadsNot n I
OperandAt n I level.Sum = ReadsProduct n I
OperandAt n I level.Relation = ReadsSum n I
OperandAt n I level.And = ReadsRelation n I
OperandAt n I level.Or = ReadsAnd n I

module _ (n : ℕ) (inner : Reader Tree) (I : Production Tree) where
  abbrev product : Reader Tree
  product = operand_with n inner level.Sum

  abbrev sum : Reader Tree
  sum = operand_with n inner level.Relation

  abbrev relation : Reader Tree
  relation = operand_with n inner level.And

  product_found : Found inner I → Found product (ReadsProduct n I)
  product_found found = chain_found (not_with n inner) (ReadsNot n I) 5 (not_found n inner I found)

  sum_found : Found inner I → Found sum (ReadsSum n I)
  sum_found found = chain_found product (ReadsProduct n I) 4 (product_found found)

  relation_found : Found inner I → Found relation (ReadsRelation n I)
  relation_found found = once_found sum (ReadsSum n I) 3 (sum_found found)

  and_found : Found inner I → Found (operand_with n inner level.Or) (ReadsAnd n I)
  and_found found = chain_found relation (ReadsRelation n I) 2 (relation_found found)

  operand_found : Found inner I → (l : Level) → Found (operand_with n inner l) (OperandAt n I l)
  operand_found found level.Product = not_found n inner I found
  operand_found found level.Sum = product_found found
  operand_found found level.Relation = sum_found found
  operand_found found level.And = relation_found found
  operand_found found level.Or = and_found found

  product_takes : Takes I → Takes (ReadsProduct n I)
  product_takes takes = chain_takes (ReadsNot n I) 5 (not_takes n inner I takes)

  sum_takes : Takes I → Takes (ReadsSum n I)
  sum_takes takes = chain_takes (ReadsProduct n I) 4 (product_takes takes)

  relation_takes : Takes I → Takes (ReadsRelation n I)
  relation_takes takes = once_takes (ReadsSum n I) 3 (sum_takes takes)

  and_takes : Takes I → Takes (ReadsAnd n I)
  and_takes takes = chain_takes (ReadsRelation n I) 2 (relation_takes takes)

  operand_takes : Takes I → (l : Level) → Takes (OperandAt n I l)
  operand_takes takes level.Product = not_takes n inner I takes
  operand_takes takes level.Sum = product_takes takes
  operand_takes takes level.Relation = sum_takes takes
  operand_takes takes level.And = relation_takes takes
  operand_takes takes level.Or = and_takes takes

  or_found : Found inner I → Found (level_with n inner level.Or) (ReadsOr n I)
  or_found found = chain_found (operand_with n inner level.Or) (ReadsAnd n I) 1 (and_found found)

  or_takes : Takes I → Takes (ReadsOr n I)
  or_takes takes = chain_takes (ReadsAnd n I) 1 (and_takes takes)

  or_again : Takes I → AgainBelow 0 inner I → AgainBelow 0 (level_with n inner level.Or) (ReadsOr n I)
  or_again takes again =
      let not = not_again n inner I again 5 in
      let product-again = chain_again (not_with n inner) (ReadsNot n I) 4 (not_takes n inner I takes) not in
      let sum-again = chain_again product (ReadsProduct n I) 3 (product_takes takes) product-again in
      let relation-again = once_again sum (ReadsSum n I) 2 sum-again in
      let and-again = chain_again relation (ReadsRelation n I) 1 (relation_takes takes) relation-again in
      chain_again (operand_with n inner level.Or) (ReadsAnd n I) 0 (and_takes takes) and-again

-- ---- nested

pub expression_found : (n : ℕ) → Found (expression_at n) (ReadsExpression n)
unfolding expression_at ReadsExpression
expression_found zero ts x e = absurd cc
expression_found (suc n) ts x e = or_found n (expression_at n) (ReadsExpression n) (expression_found n) ts x e

pub expression_takes : (n : ℕ) → Takes (ReadsExpression n)
unfolding ReadsExpression
expression_takes zero ts e rest i = absurd i
expression_takes (suc n) ts e rest i = or_takes n (expression_at n) (ReadsExpression n) (expression_takes n) ts e rest i

pub expression_again : (n : ℕ) → AgainBelow 0 (expression_at n) (ReadsExpression n)
unfolding expression_at ReadsExpression
expression_again zero ts e rest i h = absurd i
expression_again (suc n) ts e rest i h = or_again n (expression_at n) (ReadsExpression n) (expression_takes n) (expression_again n) ts e rest i h

pub operand_shrinks : (n : ℕ) (l : Level) → Shrinks (operand_with n (expression_at n) l)
operand_shrinks n l ts x e = operand_takes n (expression_at n) (ReadsExpression n) (expression_takes n) l ts x.0 x.1 (operand_found n (expression_at n) (ReadsExpression n) (expression_found n) l ts x e)
