use Rattle.rules.proofs.VerdictLaws.{one_answer}
use Rattle.rules.proofs.laws.one_answer.Goals as goal

pub returns : goal.returns
returns c = one_answer c.one_reading.ensures
