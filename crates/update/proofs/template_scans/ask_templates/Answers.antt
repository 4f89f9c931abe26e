use Rattle.std.proofs.Common.{◌≡◌, true}
use Rattle.sets.proofs.Every.{all_at}
use Rattle.update.specs.TemplateScans.{template_scan}
use Rattle.update.proofs.NewNotes.{adds_on}
use Rattle.asking.proofs.Notes.{goes_on, goes_as}
use Rattle.update.proofs.template_scans.ask_templates.Goals as goal

pub returns-in_err-ask_template-clause-goes : goal.returns-in_err-ask_template-clause-goes
returns-in_err-ask_template-clause-goes g c allowed h =
    goes_as _ c.from_residual.ensures.1 (goes_on (c.loop-template.invariant.goes allowed h) (c.in_err-ask_template.ensures.goes allowed (all_at (λ t. allowed (template_scan t) ≡ true) _ _ _ h c.loop-template-test.true)))

pub loop-template-preserved : goal.loop-template-preserved
loop-template-preserved g c = record {
  goes = λ allowed h. goes_on (c.loop-template.invariant.goes allowed h) (c.in_ok-ask_template.ensures.goes allowed (all_at (λ t. allowed (template_scan t) ≡ true) _ _ _ h c.loop-template-test.true));
  new = adds_on _ _ _ c.loop-template.invariant.new c.in_ok-ask_template.ensures.new;
}
