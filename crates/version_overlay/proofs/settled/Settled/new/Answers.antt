use Rattle.std.proofs.Common.{ap, ◌∙◌}
use Rattle.reads.specs.Reads.{says}
use Rattle.version_overlay.specs.Settled.{changed_by}
use Rattle.version_overlay.proofs.Changing.{changed_by-nothing}
use Rattle.version_overlay.proofs.settled.Settled.new.Goals as goal

pub invariant_of-result : goal.invariant_of-result
invariant_of-result c r stops d rising = ap (λ cs. says r (changed_by cs d)) c.new-2.ensures.items ∙ ap (says r) (changed_by-nothing d)
