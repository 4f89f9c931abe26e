use Rattle.sharded_machine.proofs.Bounds.{sharded_ready}
use Rattle.sharded_machine.proofs.Theorem.{sharded_invariant}
use Rattle.sharded_machine.proofs.laws.sharded_ready_after.Goals as goal

pub returns : goal.returns
returns c = λ m history ok lawful.
    sharded_ready m history
    (sharded_invariant
    (record {
      deltas = c.equal_deltas_are_one.ensures;
      cut = c.part_of_cut.ensures;
      part = c.part_after.ensures;
      merged = c.merged_parts.ensures;
      rises = c.rises_after.ensures;
    }) m ok history lawful) lawful
