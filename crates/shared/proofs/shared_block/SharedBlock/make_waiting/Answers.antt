use Rattle.std.proofs.Common.{◌∙◌, ap, sym}
use Rattle.std.proofs.lemmas.Result.{err_from_is_err_and}
use Rattle.block_machine.specs.Scans.{questions_of}
use Rattle.shared.specs.Calls.{Viewed}
use Rattle.shared.proofs.Made.{sound_there, made, made_not}
use Rattle.shared.proofs.shared_block.SharedBlock.make_waiting.Goals as goal

pub returns-in_err-scans : goal.returns-in_err-scans
returns-in_err-scans g c =
    let told = err_from_is_err_and c.from_residual.result c.from_residual.ensures.1 in
    made_not c.args.pass.now c.args.event c.from_residual.result told.0 told.1

pub make-requires-clause-sound : goal.make-requires-clause-sound
make-requires-clause-sound g c = sound_there _ _ _ c.hold-held.ensures.1 c.args.event c.requires.sound

pub make-requires-clause-scans : goal.make-requires-clause-scans
make-requires-clause-scans g c = c.deref.ensures.value ∙ c.in_ok-scans.ensures ∙ ap (λ (p : Viewed). questions_of p.subject.base c.args.event) (sym c.hold-held.ensures.1.sees)

pub returns : goal.returns
returns g c = made _ _ _ c.hold-held.ensures.1 c.make.new.pass c.args.event c.make.result c.make.ensures.ok c.make.ensures.allowed c.make.ensures.lawful c.make.ensures.err
