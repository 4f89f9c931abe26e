use Rattle.std.proofs.Common.{◌∙◌}
use Rattle.std.proofs.Math.Seq.{map-set_same}
use Rattle.crossbeam_deque.specs.Handles.{stealer_deque}
use Rattle.scheduler.specs.declared.other_deque.OtherDeque.{OtherDeque}
use Rattle.scheduler.proofs.hints.find_in.Goals as goal

pub returns-in-Some-clause-same : goal.returns-in-Some-clause-same
returns-in-Some-clause-same c = map-set_same (λ (o : OtherDeque). stealer_deque o.source) c.loop-other.others c.loop-other.other-index c.find.new.self c.other-item.result c.find.ensures.same ∙ c.loop-other.invariant

pub loop-other-preserved : goal.loop-other-preserved
loop-other-preserved c = map-set_same (λ (o : OtherDeque). stealer_deque o.source) c.loop-other.others c.loop-other.other-index c.find.new.self c.other-item.result c.find.ensures.same ∙ c.loop-other.invariant
