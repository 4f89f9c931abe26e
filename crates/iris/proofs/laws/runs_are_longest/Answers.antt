use Rattle.iris.proofs.RunLaws.{runs_are_longest}
use Rattle.iris.proofs.laws.runs_are_longest.Goals as goal

pub returns : goal.returns
returns c = runs_are_longest
