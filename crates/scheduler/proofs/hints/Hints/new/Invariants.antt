use Rattle.std.proofs.Common.{◌≡◌, All, length, map}
use Rattle.crossbeam_deque.specs.Handles.{stealer_deque}
use Rattle.scheduler.specs.Hints.{IsNew, deques_of, LooksFrom}
use Rattle.scheduler.proofs.Seats.{AllBefore}
use Rattle.scheduler.proofs.hints.Hints.new.Given as goal

abbrev pub invariant-loop-place : goal.invariant-loop-place
invariant-loop-place l =
    (length l.all.items ≡ length l.initial.all.items) × All IsNew l.all.items × (deques_of l.all.items ≡ map stealer_deque l.sources.items)
    × AllBefore (LooksFrom (map stealer_deque l.sources.items)) l.all.items l.place
