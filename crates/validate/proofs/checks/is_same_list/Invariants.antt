use Rattle.std.proofs.Common.{◌≡◌, take}
use Rattle.validate.proofs.checks.is_same_list.Given as goal

abbrev pub invariant-loop-at : goal.invariant-loop-at
invariant-loop-at l = take l.at l.fn.a ≡ take l.at l.fn.b
