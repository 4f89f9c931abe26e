use Rattle.std.proofs.Common.{◌≡◌, ◌++◌, drop, map}
use Rattle.syntax_trees.specs.Groups.{part_of, parts_of, lists_of, group, groups}
use Rattle.nodes.specs.Nodes.{nodes_of_part, nodes_of_parts, nodes_of_groups}
use Rattle.nodes.proofs.nodes.+add_group.Given as goal

abbrev pub invariant-add_group-loop-element : goal.invariant-add_group-loop-element
invariant-add_group-loop-element l = l.found.items ++ nodes_of_parts (group (parts_of (drop l.element-index l.elements))) ≡ l.fn.found.items ++ nodes_of_parts (group (parts_of l.fn.elements))

abbrev pub invariant-add_element-loop-group : goal.invariant-add_element-loop-group
invariant-add_element-loop-group l = l.found.items ++ nodes_of_groups (groups (map group (lists_of (drop l.group-index l.group-items)))) ≡ l.fn.found.items ++ nodes_of_part (part_of l.fn.element)
