use Rattle.std.proofs.Common.{Some, arith, ap, subst, sym}
use Rattle.std.proofs.lemmas.Result.{err_from_is_err_and}
use Rattle.incarnations.specs.declared.state.Event.TheVariants.{Publish}
use Rattle.book.specs.Run.{Run, IsSoundEvent}
use Rattle.shared.specs.declared.kept.Kept.{Kept}
use Rattle.shared.specs.InTurn.{publishing}
use Rattle.shared.proofs.Made.{sound_there}
use Rattle.shared.proofs.Took.{refused_first, adds_and_takes}
use Rattle.shared.proofs.shared_block.SharedBlock.publish_settled.Goals as goal

pub returns-in_err-reserve : goal.returns-in_err-reserve
returns-in_err-reserve g c =
    let told = err_from_is_err_and c.from_residual.result c.from_residual.ensures.1 in
    refused_first c.args.pass.now (publishing c.args.i c.args.n c.args.finished c.args.notes c.args.until) _ _ _ c.from_residual.result told.0 (omega arith) told.1 c.in_err-reserve.ensures.items

pub make_publishing_and_taking-made-requires-clause-sound : goal.make_publishing_and_taking-made-requires-clause-sound
make_publishing_and_taking-made-requires-clause-sound g c =
    subst (λ (b : Run). IsSoundEvent b (Publish c.args.i c.args.n (Some c.args.finished))) (sym (ap (λ (k : Kept). k.book) c.deref_mut.ensures.value))
    (sound_there c.args.pass.now c.hold-held.new.pass c.hold-held.result.book.value.book c.hold-held.ensures.1 (Publish c.args.i c.args.n (Some c.args.finished)) c.requires.sound)

pub returns : goal.returns
returns g c =
    adds_and_takes c.args.pass.now c.hold-held.new.pass c.give.new.pass c.hold-held.result.book.value.book c.deref_mut.result.now.book c.deref.result.now.book c.make_publishing_and_taking-made.new.book _ _ _ _ _ _
    c.hold-held.ensures.1 (omega arith) (ap (λ (k : Kept). k.book) c.deref_mut.ensures.value) (ap (λ (k : Kept). k.book) c.deref.ensures) c.in_ok-reserve.ensures.items c.journal-before.ensures.lawful
    c.make_publishing_and_taking-made.ensures.took c.give.ensures
