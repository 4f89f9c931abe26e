use Rattle.std.proofs.Common.{ap, sym, ◌++◌}
use Rattle.nodes.specs.Nodes.{nodes_of_part}
use Rattle.nodes.proofs.GroupLaws.{union_is}
use Rattle.nodes.proofs.nodes.+add_group.Goals as goal

pub add_element-loop-group-init : goal.add_element-loop-group-init
add_element-loop-group-init t c =
    rw (c.in-Union.is, c.deref-group-items.ensures.value) (ap (λ p. c.args.found.now.items ++ nodes_of_part p) (sym (union_is c.in-Union.groups)))
