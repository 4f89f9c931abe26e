use Rattle.std.proofs.Common.{◌≡◌, refl, ap, ◌∙◌}
use Rattle.reads.specs.Reads.{says}
use Rattle.reads.specs.Tells.{Tells}
use Rattle.asking.proofs.Notes.{asked_all}
use Rattle.serial.specs.declared.current.Reader.{Reader}
use Rattle.serial.proofs.Sound.{answered}
use Rattle.serial.proofs.sequential.finished.Goals as goal

pub returns-in-Ok : goal.returns-in-Ok
returns-in-Ok c =
    let d = c.args.current.now in
    let agreed =
    asked_all (λ (s : Reader) r told s'. (s'.current.now ≡ s.current.now) × Tells s.current.now r told) (λ s. s.current.now ≡ d) (λ r a. a ≡ says r d)
    (λ s s' r a is step. (step.0 ∙ is, step.1 ∙ ap (says r) is))
    c.in-Ok.execution.finished.transcript (record { alloc = c.args.alloc; current = c.args.current }) c.execute.new.source refl c.in-Ok.ensures.asked in
    answered c.in-Ok.execution c.args.terms.now c.args.place c.args.request.now c.into_finished.result d
    c.in-Ok.ensures.request c.into_finished.ensures.sound c.into_finished.ensures.finished agreed.1 c.requires.dataset
