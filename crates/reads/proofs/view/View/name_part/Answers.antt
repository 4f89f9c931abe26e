use Rattle.reads.proofs.Rising.{rises-name}
use Rattle.reads.proofs.view.View.name_part.Goals as goal

pub invariant_of-result : goal.invariant_of-result
invariant_of-result c = rises-name _ _ c.args.name.now c.is_member-is_there.result c.new.ensures c.in_ok-names.ensures
