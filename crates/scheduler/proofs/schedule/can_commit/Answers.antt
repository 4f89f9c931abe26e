use Rattle.std.proofs.Common.{◌&&◌, ◌∙◌, sym, ap}
use Rattle.book.specs.Run.{state_of}
use Rattle.validate.specs.Below.{slot_at}
use Rattle.block_machine.specs.Machine.{is_stamped}
use Rattle.scheduler.proofs.Tasks.{none_executed}
use Rattle.scheduler.proofs.schedule.can_commit.Goals as goal

pub returns-in-None : goal.returns-in-None
returns-in-None c =
    let slots = (state_of c.args.book.now).slots in
    sym (ap (λ b. b && is_stamped slots c.args.front (slot_at slots c.args.front).stamp) (none_executed slots c.args.front (sym c.status.ensures ∙ c.in-None.is)))
