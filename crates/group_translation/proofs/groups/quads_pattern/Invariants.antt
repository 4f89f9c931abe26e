use Rattle.std.proofs.Common.{◌≡◌, drop}
use Rattle.algebra.specs.Plans.{nothing, linked_all, parts_of}
use Rattle.group_translation.specs.Groups.{with_blocks}
use Rattle.group_translation.proofs.groups.quads_pattern.Given as goal

abbrev pub invariant-loop-block : goal.invariant-loop-block
invariant-loop-block l =
    with_blocks l.scope.prefixes.now l.scope.variables.now (linked_all nothing (parts_of l.parts.items)) (drop l.block-index l.blocks)
    ≡ with_blocks l.scope.prefixes.now l.scope.variables.now nothing l.blocks
