use Rattle.std.proofs.Common.{◌≡◌, ◌++◌, map, take}
use Rattle.crossbeam_deque.specs.Handles.{stealer_deque}
use Rattle.scheduler.specs.Hints.{sources_of}
use Rattle.scheduler.proofs.hints.add_others.Given as goal

abbrev pub invariant-loop-source : goal.invariant-loop-source
invariant-loop-source l = sources_of l.others.items ≡ sources_of l.initial.others.items ++ map stealer_deque (take l.source-index l.sources)
