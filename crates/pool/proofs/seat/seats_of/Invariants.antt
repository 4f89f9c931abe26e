use Rattle.std.proofs.Common.{◌≡◌, ◌++◌, reverse, length}
use Rattle.pool.proofs.seat.seats_of.Given as goal

-- what is left, and the seats of the others from the last one on
abbrev pub invariant-loop-pass : goal.invariant-loop-pass
invariant-loop-pass l =
    (l.passes.items ++ reverse l.seats.items ≡ l.fn.passes.items) × (length l.passes.items ≡ length l.hints.items)

abbrev pub decreases-loop-pass : goal.decreases-loop-pass
decreases-loop-pass l = length l.passes.items
