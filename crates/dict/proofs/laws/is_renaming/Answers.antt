use Rattle.dict.proofs.Numbers.{is_renaming}
use Rattle.dict.proofs.laws.is_renaming.Goals as goal

pub returns : goal.returns
returns c = is_renaming
