use Rattle.std.proofs.Common.{◌≡◌, All, length, map}
use Rattle.crossbeam_deque.specs.Handles.{stealer_deque}
use Rattle.scheduler.specs.Hints.{IsNew, deques_of}
use Rattle.scheduler.proofs.hints.own_deques.Given as goal

abbrev pub invariant-loop : goal.invariant-loop
invariant-loop l = (length l.all.items ≡ l.counter) × All IsNew l.all.items × (map stealer_deque l.sources.items ≡ deques_of l.all.items)
