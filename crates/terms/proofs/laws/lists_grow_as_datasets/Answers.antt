use Rattle.terms.proofs.DataSetLaws.{quad_pushed}
use Rattle.terms.proofs.laws.lists_grow_as_datasets.Goals as goal

pub returns : goal.returns
returns c = quad_pushed
