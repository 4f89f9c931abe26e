use Rattle.std.proofs.Common.{◌∙◌}
use Rattle.reads.proofs.Equal.{pointwise_is}
use Rattle.reads.proofs.same.same_lists.Goals as goal

pub returns : goal.returns
returns g c = c.eq.ensures ∙ pointwise_is _ _ g.met.T.Ord.matches_eq c.args.left.now c.args.right.now
