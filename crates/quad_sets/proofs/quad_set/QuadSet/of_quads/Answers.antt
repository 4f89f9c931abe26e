use Rattle.std.proofs.Common.{map, ap, ◌∙◌}
use Rattle.quad_lists.specs.Known.{quad_of}
use Rattle.quad_lists.specs.QuadList.{quads_in}
use Rattle.quad_sets.proofs.Sorted.{set_of_quads}
use Rattle.quad_sets.proofs.quad_set.QuadSet.of_quads.Goals as goal
use Rattle.quad_sets.proofs.quad_set.QuadSet.of_quads.Goals.{in-Some, in-None}

pub invariant_of-result : goal.invariant_of-result
invariant_of-result c =
    elim c.match-branch-2.branch [
      | in-Some w ↦ set_of_quads _ (map quad_of w.in-Some.known.items) (ap quads_in w.entries-is ∙ w.known_set.ensures)
      | in-None w ↦ set_of_quads _ c.args.quads.items (ap quads_in w.entries-is ∙ w.set_of.ensures)
    ]
