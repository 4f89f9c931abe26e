use Rattle.std.proofs.Common.{◌≡◌, drop}
use Rattle.solution.specs.Lookups.{order_at}
use Rattle.solution.proofs.lookup.order_at.Given as goal

abbrev pub invariant-loop-variable : goal.invariant-loop-variable
invariant-loop-variable l = order_at (drop l.variable-index l.variables) l.a l.b ≡ order_at l.variables l.a l.b
