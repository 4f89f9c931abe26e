use Rattle.std.proofs.Common.{ap}
use Rattle.shared.specs.declared.kept.Kept.{Kept}
use Rattle.shared.proofs.Took.{took_next}
use Rattle.shared.proofs.shared_block.SharedBlock.take_next.Goals as goal

pub returns : goal.returns
returns g c =
    took_next c.args.pass.now c.hold-held.new.pass c.give.new.pass c.hold-held.result.book.value.book c.deref_mut.result.now.book c.deref.result.now.book c.make_taking-made.new.book _ _ _
    c.hold-held.ensures.1 (ap (λ (k : Kept). k.book) c.deref_mut.ensures.value) (ap (λ (k : Kept). k.book) c.deref.ensures) c.worker-worker.ensures c.journal-before.ensures.lawful
    c.make_taking-made.ensures.next c.make_taking-made.ensures.none c.make_taking-made.ensures.some c.make_taking-made.ensures.err c.give.ensures
