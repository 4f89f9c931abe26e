use Rattle.scheduler.specs.Task.{IsHint}
use Rattle.scheduler.proofs.HintDeques.{takes}
use Rattle.scheduler.proofs.other_deque.OtherDeque.find.Goals as goal

pub steal_as-requires-clause-takes : goal.steal_as-requires-clause-takes
steal_as-requires-clause-takes c = takes IsHint _ tt 1
