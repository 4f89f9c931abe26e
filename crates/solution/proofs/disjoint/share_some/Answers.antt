use Rattle.std.proofs.Common.{arith}
use Rattle.solution.proofs.NoneShared.{share_nothing}
use Rattle.solution.proofs.disjoint.share_some.Goals as goal

pub returns : goal.returns
returns c e =
    share_nothing c.args.left.now c.args.right.now c.widest-variable-end.result c.widest-variable-end.ensures (λ v lt. c.loop-variable.invariant v (omega arith))
