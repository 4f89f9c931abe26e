use Rattle.std.proofs.Common.{◌≡◌, ◌++◌, drop}
use Rattle.nodes.specs.Nodes.{nodes_of_blocks}
use Rattle.nodes.proofs.nodes.add_blocks.Given as goal

abbrev pub invariant-loop-block : goal.invariant-loop-block
invariant-loop-block l = l.found.items ++ nodes_of_blocks (drop l.block-index l.blocks) ≡ l.fn.found.items ++ nodes_of_blocks l.blocks
