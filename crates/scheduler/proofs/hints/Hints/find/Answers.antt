use Rattle.scheduler.specs.Task.{IsHint}
use Rattle.scheduler.proofs.HintDeques.{takes, pops}
use Rattle.scheduler.proofs.hints.Hints.find.Goals as goal

pub pop_as-requires-clause-fifo : goal.pop_as-requires-clause-fifo
pop_as-requires-clause-fifo c = λ _. takes IsHint _ tt 1

pub pop_as-requires-clause-lifo : goal.pop_as-requires-clause-lifo
pop_as-requires-clause-lifo c = λ _. pops IsHint _ tt
