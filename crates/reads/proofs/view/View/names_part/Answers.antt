use Rattle.std.proofs.Common.{◌∙◌}
use Rattle.reads.proofs.Rising.{rises-names}
use Rattle.reads.proofs.view.View.names_part.Goals as goal

pub invariant_of-result : goal.invariant_of-result
invariant_of-result c = rises-names _ _ _ c.self.invariant c.new.ensures (c.in_ok-names.ensures ∙ c.deref.ensures.value)
