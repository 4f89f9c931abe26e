use Rattle.std.proofs.Common.{ap, ◌∙◌}
use Rattle.asking.proofs.Notes.{goes_as}
use Rattle.update.specs.Once.{is_noted}
use Rattle.update.proofs.NewNotes.{adds_one}
use Rattle.update.proofs.template_scans.ask_template.Goals as goal

pub returns-in_err-_answer-clause-goes : goal.returns-in_err-_answer-clause-goes
returns-in_err-_answer-clause-goes g c allowed near = goes_as _ c.from_residual.ensures.1 (c.in_err-_answer.ensures.goes allowed (ap allowed c.template_scan-read.ensures ∙ near))

pub returns-clause-goes : goal.returns-clause-goes
returns-clause-goes g c allowed near = c.in_ok-_answer.ensures.goes allowed (ap allowed c.template_scan-read.ensures ∙ near)

pub returns-clause-new : goal.returns-clause-new
returns-clause-new g c =
    adds_one _ _ _ _ c.in_ok-_answer.ensures.noted (c.is_noted.ensures ∙ ap (λ ns. is_noted ns c.template_scan-read.result) c.as_slice.ensures.value) c.if-is_noted.false
