use Rattle.std.proofs.Common.{◌∙◌, ap, sym}
use Rattle.std.proofs.lemmas.Result.{err_from_is_err_and}
use Rattle.block_machine.specs.Scans.{questions_of}
use Rattle.shared.specs.Calls.{Viewed}
use Rattle.shared.proofs.Made.{sound_there, answers, unmade, tried_not}
use Rattle.shared.proofs.shared_block.SharedBlock.try_make.Goals as goal

pub returns-in_err-scans : goal.returns-in_err-scans
returns-in_err-scans c =
    let told = err_from_is_err_and c.from_residual.result c.from_residual.ensures.1 in
    tried_not c.args.pass.now c.args.event c.from_residual.result told.0 told.1

pub make-requires-clause-sound : goal.make-requires-clause-sound
make-requires-clause-sound c = sound_there _ _ _ c.in-Ok.ensures.held.1 c.args.event c.requires.sound

pub make-requires-clause-scans : goal.make-requires-clause-scans
make-requires-clause-scans c = c.deref.ensures.value ∙ c.in_ok-scans.ensures ∙ ap (λ (p : Viewed). questions_of p.subject.base c.args.event) (sym c.in-Ok.ensures.held.1.sees)

pub returns-in-Ok-make : goal.returns-in-Ok-make
returns-in-Ok-make c =
    answers _ _ _ c.in-Ok.ensures.held.1 c.make.new.pass c.args.event c.in-Ok-make.reply c.in-Ok-make.ensures.ok c.in-Ok-make.ensures.allowed c.in-Ok-make.ensures.lawful

pub returns-in-Ok : goal.returns-in-Ok
returns-in-Ok c = unmade _ _ _ c.in-Ok.ensures.held.1 c.make.new.pass c.in-Err-make.ensures.err c.in-Err-make.ensures.lawful

pub returns : goal.returns
returns c = c.in-Err.ensures.busy
