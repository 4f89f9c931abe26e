use Rattle.std.proofs.Common.{◌+◌, arith}
use Rattle.stamp_tree.proofs.Pairs.{stands_alone, stand_both}
use Rattle.stamp_tree.proofs.tree.pair_at.Goals as goal

pub returns-then-place-list : goal.returns-then-place-list
returns-then-place-list c = stand_both c.args.list.now (c.args.pair + c.args.pair) _ _ _ (omega arith) c.joined.ensures.due c.joined.ensures.changed

pub returns-else-place-list : goal.returns-else-place-list
returns-else-place-list c = stands_alone c.args.list.now (c.args.pair + c.args.pair) _ (omega arith) (omega arith)
