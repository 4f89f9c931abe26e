use Rattle.terms.proofs.DataSetLaws.{any_named}
use Rattle.terms.proofs.laws.quads_name_their_graphs.Goals as goal

pub returns : goal.returns
returns c = any_named
