use Rattle.std.proofs.Common.{◌≡◌, Bool, true, refl, subst, sym}
use Rattle.sets.proofs.Every.{all_by}
use Rattle.datasets.specs.Id.{id_order}
use Rattle.algebra.specs.declared.template.QuadTemplate.{QuadTemplate}
use Rattle.algebra.specs.declared.update.Operation.TheVariants as operation
use Rattle.datasets.specs.declared.id.Id.{Id}
use Rattle.dict.specs.Dictionary.{numbers}
use Rattle.asking.specs.Near.{is_near}
use Rattle.reads.specs.Reads.{Read}
use Rattle.update.specs.TemplateScans.{AskedTemplates}
use Rattle.update.proofs.Nearness.{plan_near}
use Rattle.update.proofs.NewNotes.{asks_once}
use Rattle.update.proofs.TemplatesNear.{inserted_asked}
use Rattle.asking.proofs.Notes.{goes_on, goes_as, goes_within, agreed}
use Rattle.update.proofs.modify.solutions_of.Goals as goal

pub returns-in_err-found-clause-goes : goal.returns-in_err-found-clause-goes
returns-in_err-found-clause-goes g c =
    goes_as _ c.from_residual.ensures.1 (goes_within (plan_near c.args.modify.now) c.in_err-found.ensures.near)

pub returns-in_err-ask_templates-clause-goes : goal.returns-in_err-ask_templates-clause-goes
returns-in_err-ask_templates-clause-goes g c =
    let near = is_near id_order (operation.Modify c.args.modify.now) in
    goes_as _ c.from_residual-in_err-ask_templates.ensures.1 (goes_on (goes_within (plan_near c.args.modify.now) c.in_ok-found.ensures.near) (c.in_err-ask_templates.ensures.goes near (subst (AskedTemplates near) (sym c.as_slice.ensures) (inserted_asked c.args.modify.now))))

pub returns-clause-goes : goal.returns-clause-goes
returns-clause-goes g c =
    let near = is_near id_order (operation.Modify c.args.modify.now) in
    goes_on (goes_within (plan_near c.args.modify.now) c.in_ok-found.ensures.near) (c.in_ok-ask_templates.ensures.goes near (subst (AskedTemplates near) (sym c.as_slice.ensures) (inserted_asked c.args.modify.now)))

pub returns-clause-solved : goal.returns-clause-solved
returns-clause-solved g c d a =
    let any : Read → Bool = λ r. true in
    c.in_ok-found.ensures.solved d (agreed (c.in_ok-ask_templates.ensures.goes any (all_by (λ (t : QuadTemplate Id). true ≡ true) (λ t. refl) c.as_slice.result.now)) d a)

pub returns-clause-once : goal.returns-clause-once
returns-clause-once g c =
    let any : Read → Bool = λ r. true in
    asks_once (numbers c.args.dict.now) c.args.modify.now c.args.changes.now _ _ c.in_ok-found.ensures.near c.are_many.ensures
    (λ d a. c.in_ok-found.ensures.solved d (agreed (c.in_ok-ask_templates.ensures.goes any (all_by (λ (t : QuadTemplate Id). true ≡ true) (λ t. refl) c.as_slice.result.now)) d a))
    c.in_ok-ask_templates.ensures.new c.in_ok-ask_templates.ensures.none
