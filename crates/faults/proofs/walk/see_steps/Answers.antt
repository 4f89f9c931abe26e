use Rattle.std.proofs.Common.{refl, sym, ap, ◌∙◌, ◌++◌}
use Rattle.faults.proofs.KindLaws.{steps_further, steps_done}
use Rattle.faults.proofs.walk.see_steps.Goals as goal

pub loop-step-preserved : goal.loop-step-preserved
loop-step-preserved c = λ rest.
    steps_further c.args.steps.now c.loop-step.step-index c.step-item.result _ c.loop-step.walk c.take.new.walk c.loop-step-test.true c.step-item.is refl c.in_ok-take.ensures rest
    ∙ c.loop-step.invariant rest

pub returns : goal.returns
returns c = λ rest. steps_done c.args.steps.now c.loop-step.step-index c.loop-step.walk c.loop-step-test.false rest ∙ c.loop-step.invariant rest
