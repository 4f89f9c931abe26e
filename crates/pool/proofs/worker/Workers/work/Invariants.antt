use Rattle.shared.specs.Duty.{IsPassFor}
use Rattle.pool.specs.Shown.{TakeIsSeen}
use Rattle.pool.proofs.worker.Workers.work.Given as goal

abbrev pub invariant-loop : goal.invariant-loop
invariant-loop g l =
    (goal.iterator-loop g).can_next l.iterator' × (goal.iterator-loop g).is_finite l.iterator' × IsPassFor l.self l.pass × TakeIsSeen l.pass l.next
