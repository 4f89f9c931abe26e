use Rattle.terms.proofs.UniteLaws.{lists_unite}
use Rattle.terms.proofs.laws.lists_unite.Goals as goal

pub returns : goal.returns
returns c = lists_unite
