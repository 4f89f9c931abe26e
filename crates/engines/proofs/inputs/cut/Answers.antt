use Rattle.std.proofs.Common.{arith}
use Rattle.engines.proofs.Blocks.{checked_length, checked_short}
use Rattle.engines.proofs.inputs.cut.Goals as goal

pub returns-in-Ok-clause-few : goal.returns-in-Ok-clause-few
returns-in-Ok-clause-few c = let same = checked_length c.in-Ok.ensures.3 in let few = c.in-Ok.ensures.1 in omega (arith, same, few)

pub returns-in-Ok-clause-short : goal.returns-in-Ok-clause-short
returns-in-Ok-clause-short c = checked_short c.requests_are_short.ensures c.in-Ok.ensures.3
