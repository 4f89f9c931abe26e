use Rattle.std.proofs.Common.{ℕ, ◌<◌, ◌≡◌, ◌&&◌, false}
use Rattle.solution.specs.Sharing.{is_bound_among}
use Rattle.solution.proofs.disjoint.share_some.Given as goal

abbrev pub invariant-loop-variable : goal.invariant-loop-variable
invariant-loop-variable l = (v : ℕ) → v < l.variable → (is_bound_among l.left v && is_bound_among l.right v) ≡ false
