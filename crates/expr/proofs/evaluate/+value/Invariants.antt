use Rattle.std.proofs.Common.{◌≡◌, drop, map}
use Rattle.algebra.specs.Expressions.{expression_of}
use Rattle.expr.specs.Outcomes.{seen}
use Rattle.expr.proofs.ValueLaws.{chain_value, step_value, value_at}
use Rattle.expr.proofs.evaluate.+value.Given as goal

abbrev pub invariant-loop-operator : goal.invariant-loop-operator
invariant-loop-operator l =
    chain_value (seen l.so_far) (map (step_value l.dict l.mapping) (drop l.operator-index l.operator-items)) ≡ value_at l.dict l.mapping (expression_of l.fn.expression)
