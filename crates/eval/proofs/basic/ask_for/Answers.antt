use Rattle.std.proofs.Common.{sym, subst, ◌∙◌}
use Rattle.asking.specs.Goes.{AreAllowed}
use Rattle.eval.proofs.Lots.{asked_scans}
use Rattle.eval.proofs.basic.ask_for.Goals as goal

pub returns-clause-goes : goal.returns-clause-goes
returns-clause-goes g c allowed h =
    c.ask_all.ensures.goes allowed (subst (AreAllowed allowed) (sym (c.deref.ensures.value ∙ c.in_ok-scans.ensures)) (asked_scans allowed c.args.patterns.now c.args.graph h))
