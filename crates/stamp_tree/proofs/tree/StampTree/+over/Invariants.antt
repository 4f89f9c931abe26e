use Rattle.std.proofs.Common.{length}
use Rattle.stamp_tree.proofs.tree.StampTree.+over.Given as goal

abbrev pub decreases-over : goal.decreases-over
decreases-over l = length l.list.items
