use Rattle.iris.proofs.RunLaws.{take-prefix, drop-prefix}
use Rattle.iris.proofs.laws.run_by_length.Goals as goal

pub returns-clause-front : goal.returns-clause-front
returns-clause-front c = take-prefix

pub returns-clause-rest : goal.returns-clause-rest
returns-clause-rest c = drop-prefix
