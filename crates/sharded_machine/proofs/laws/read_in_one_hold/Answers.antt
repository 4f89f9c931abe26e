use Rattle.sharded_machine.proofs.OneHold.{read_in_one_hold}
use Rattle.sharded_machine.proofs.laws.read_in_one_hold.Goals as goal

pub returns : goal.returns
returns c = λ m history worker i n read reply ok.
    read_in_one_hold
    (record {
      deltas = c.equal_deltas_are_one.ensures;
      cut = c.part_of_cut.ensures;
      part = c.part_after.ensures;
      merged = c.merged_parts.ensures;
      rises = c.rises_after.ensures;
    }) c.covers_in_parts.ensures m ok history worker i n read reply
