use Rattle.grammar.proofs.RequestLaws.{one_reading}
use Rattle.grammar.proofs.laws.one_reading.Goals as goal

pub returns : goal.returns
returns c = one_reading c.quads_and_groups_are_read.ensures c.one_cut.ensures
