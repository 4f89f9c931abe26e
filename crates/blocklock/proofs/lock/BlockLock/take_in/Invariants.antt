use Rattle.std.proofs.Common.{◌≡◌, map, All, ◌++◌}
use Rattle.blocklock.specs.Passes.{IsIdleAt, told_of}
use Rattle.blocklock.proofs.lock.BlockLock.take_in.Given as goal

abbrev pub invariant-loop-next : goal.invariant-loop-next
invariant-loop-next g l =
    (l.seat.table_id ≡ l.fn.seat.table_id) × (l.seat.id ≡ l.fn.seat.id) × All (λ p. IsIdleAt l.self (g.P.IntoPass.pass_of p)) l.passes.items
    × (l.seat.me.0 ≡ record l.fn.seat.me.0 { told = l.seat.me.0.told })
    × (map (λ p. told_of (g.P.IntoPass.pass_of p)) l.passes.items ++ l.seat.me.0.told ≡ map (λ p. told_of (g.P.IntoPass.pass_of p)) l.fn.passes.items)

abbrev pub decreases-loop-next : goal.decreases-loop-next
decreases-loop-next g l = goal.left-loop-next g l
