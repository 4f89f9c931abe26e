use Rattle.faults.proofs.KindLaws.{all_seen}
use Rattle.faults.proofs.walk.kinds_in.Goals as goal

pub returns : goal.returns
returns c = all_seen c.args.syntax.now c.new-walk.result c.see_steps.new.walk c.as_slice.result.now c.kinds.result c.as_slice.ensures c.new-walk.ensures.kinds c.in_ok-see_steps.ensures c.kinds.ensures
