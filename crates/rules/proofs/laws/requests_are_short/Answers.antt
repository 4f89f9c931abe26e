use Rattle.rules.proofs.VerdictLaws.{requests_are_short}
use Rattle.rules.proofs.laws.requests_are_short.Goals as goal

pub returns : goal.returns
returns c = requests_are_short
