use Rattle.rules.proofs.VerdictLaws.{first_fault_is}
use Rattle.rules.proofs.request.first_fault.Goals as goal

pub returns : goal.returns
returns c = first_fault_is c.args.syntax.now c.in_ok-kinds_in.field-0 c.first_of.result c.in_ok-kinds_in.ensures c.first_of.ensures
