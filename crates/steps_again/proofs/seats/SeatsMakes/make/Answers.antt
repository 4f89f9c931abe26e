use Rattle.std.proofs.Common.{[], sym, subst}
use Rattle.book.specs.Run.{IsSoundEvent}
use Rattle.shared.specs.Calls.{run_of}
use Rattle.steps_again.proofs.seats.SeatsMakes.make.Goals as goal

pub call-made-requires-clause-sound : goal.call-made-requires-clause-sound
call-made-requires-clause-sound c =
    subst (λ s. IsSoundEvent (run_of s []) c.args.event.now) (sym c.self.invariant.0.subject)
    (subst (λ run. IsSoundEvent run c.args.event.now) (sym c.self.view_is) c.requires)

pub call-made-requires-else-worker-eq0-clause-sound :
    goal.call-made-requires-else-worker-eq0-clause-sound
call-made-requires-else-worker-eq0-clause-sound c =
    subst (λ s. IsSoundEvent (run_of s []) c.args.event.now) (sym c.self.invariant.1.subject)
    (subst (λ run. IsSoundEvent run c.args.event.now) (sym c.self.view_is) c.requires)
