use Rattle.std.proofs.Common.{[]}
use Rattle.canonical_nquads.proofs.RisingLaws.{rising_none}
use Rattle.canonical_nquads.proofs.text_pieces.graph_lines.Goals as goal

pub returns : goal.returns
returns c = c.in_ok-whole.ensures _ (c.in_ok-graphs_rise.ensures c.if-not-graphs_rise.false [] (rising_none _ c.new.ensures.items))
