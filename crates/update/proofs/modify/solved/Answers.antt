use Rattle.std.proofs.Common.{List, [], sym, ap, ◌∙◌}
use Rattle.std.proofs.lemmas.Result.{IfOk-weaker}
use Rattle.std.specs.Prelude.{filter}
use Rattle.std.specs.Option.{option_map}
use Rattle.algebra.specs.declared.template.Slot.TheVariants as slot
use Rattle.datasets.specs.Id.{id_order}
use Rattle.dict.specs.Dictionary.{numbers}
use Rattle.algebra.specs.Plans.{plan_of}
use Rattle.asking.specs.Near.{is_for_plan}
use Rattle.meaning.specs.Solutions.{passes_all, solutions}
use Rattle.reads.specs.Reads.{applied}
use Rattle.solution.specs.Limits.{up_to}
use Rattle.terms.specs.declared.term.Term.{Term}
use Rattle.update.proofs.Effects.{unfiltered}
use Rattle.update.proofs.Nearness.{active_written}
use Rattle.asking.proofs.Notes.{goes_within}
use Rattle.update.proofs.modify.solved.Goals as goal

pub returns-clause-near : goal.returns-clause-near
returns-clause-near g c =
    let active = option_map slot.Term c.args.modify.now.active in
    goes_within (λ r h. ap (λ p. is_for_plan id_order active p r) (sym c.plan-plan.ensures) ∙ h)
    (c.solve_up_to.ensures.goes active (active_written c.args.modify.now.active))

pub returns-clause-solved : goal.returns-clause-solved
returns-clause-solved g c =
    let passes = (numbers c.args.dict.now).passes in
    let m = c.args.modify.now in
    IfOk-weaker c.solve_up_to.result _ _
    (λ found h d a.
    let dataset = applied c.args.changes.now d in
    h d a
    ∙ ap (λ (terms : List Term). up_to 1000000 (filter (passes_all (numbers terms).passes []) (solutions id_order (numbers terms).passes m.width (plan_of c.plan-plan.result.now) dataset m.active))) c.new.ensures
    ∙ ap (up_to 1000000)
    (unfiltered passes (solutions id_order passes m.width (plan_of c.plan-plan.result.now) dataset m.active)
    ∙ ap (λ p. solutions id_order passes m.width p dataset m.active) c.plan-plan.ensures))
    c.solve_up_to.ensures.solved
