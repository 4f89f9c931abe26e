use Rattle.std.proofs.Common.{◌≡◌, ◌+◌, ◌*◌, length}
use Rattle.syntax_trees.specs.Groups.{parts_of, lists_of}
use Rattle.productions.specs.Many.{many}
use Rattle.productions.proofs.ManyLaws.{so_far}
use Rattle.groups.specs.Reading.{behind, union_link, item_with, items, parts_with, group_at}
use Rattle.groups.proofs.parse.+groups.Given as goal

abbrev pub decreases-group_at : goal.decreases-group_at
decreases-group_at l = 4 * l.depth

abbrev pub decreases-groups_at : goal.decreases-groups_at
decreases-groups_at l = 4 * l.depth + 1

abbrev pub decreases-graph_at : goal.decreases-graph_at
decreases-graph_at l = 4 * l.depth + 1

abbrev pub decreases-part_at : goal.decreases-part_at
decreases-part_at l = 4 * l.depth + 2

abbrev pub decreases-parts_at : goal.decreases-parts_at
decreases-parts_at l = 4 * l.depth + 3

abbrev pub invariant-groups_at-loop-goes_on : goal.invariant-groups_at-loop-goes_on
invariant-groups_at-loop-goes_on l = so_far (group_at l.depth) union_link l.goes_on (lists_of l.found.items) l.rest ≡ many (group_at l.fn.depth) union_link l.fn.tokens

abbrev pub decreases-groups_at-loop-goes_on : goal.decreases-groups_at-loop-goes_on
decreases-groups_at-loop-goes_on l = length l.rest

abbrev pub invariant-parts_at-loop-alloc : goal.invariant-parts_at-loop-alloc
invariant-parts_at-loop-alloc l = behind (parts_of l.found.items) (items (item_with l.depth (group_at l.depth)) l.rest) ≡ parts_with l.fn.depth (group_at l.fn.depth) l.fn.tokens

abbrev pub decreases-parts_at-loop-alloc : goal.decreases-parts_at-loop-alloc
decreases-parts_at-loop-alloc l = length l.rest
