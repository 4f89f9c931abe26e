use Rattle.numbering.proofs.Carried.{carried}
use Rattle.numbering.proofs.laws.carries_block.Goals as goal

pub returns : goal.returns
returns c = carried c.is_renaming.ensures
