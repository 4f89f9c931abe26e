use Rattle.std.proofs.Common.{◌≡◌}
use Rattle.scheduler.specs.Hints.{sources_of}
use Rattle.scheduler.proofs.hints.find_in.Given as goal

abbrev pub invariant-loop-other : goal.invariant-loop-other
invariant-loop-other l = sources_of l.others ≡ sources_of l.initial.others
