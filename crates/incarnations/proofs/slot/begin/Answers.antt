use Rattle.std.proofs.lemmas.Bool.{false≢true}
use Rattle.incarnations.specs.Kept.{slot_by}
use Rattle.incarnations.proofs.Slots.{begun_kept}
use Rattle.incarnations.proofs.slot.begin.Goals as goal

pub returns-else-is_empty-clause-by : goal.returns-else-is_empty-clause-by
returns-else-is_empty-clause-by c =
    λ f. begun_kept f (slot_by f c.args.slot.now) c.args.slot.now.notes c.args.clock (λ e. absurd (false≢true (c.if-is_empty.ensures.1 e)))
