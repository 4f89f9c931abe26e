use Rattle.std.proofs.Common.{◌++◌, sym, ap, ◌∙◌, subst}
use Rattle.asking.specs.Goes.{AreAllowed}
use Rattle.update.specs.Known.{scans_for_untold}
use Rattle.update.proofs.presence.ask_for_untold.Goals as goal

pub returns-clause-goes : goal.returns-clause-goes
returns-clause-goes g c allowed h =
    let scans = scans_for_untold c.args.known.now c.args.quads.now in
    c.ask_any.ensures.goes allowed (subst (AreAllowed allowed) (sym (c.deref.ensures.value ∙ c.in_ok-push_scans.ensures ∙ ap (λ rs. rs ++ scans) c.in_ok-reads.ensures.items)) h)
