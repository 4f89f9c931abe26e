use Rattle.std.proofs.Common.{◌+◌, length, sym, ap, subst, ◌∙◌}
use Rattle.std.proofs.lemmas.List.{length-append}
use Rattle.dict.specs.Ranks.{IsStep}
use Rattle.dict.proofs.StepLaws.{steps_more}
use Rattle.dict.proofs.steps.steps.Goals as goal

pub loop-place-preserved : goal.loop-place-preserved
loop-place-preserved c = record {
  as_many = ap length c.in_ok-push.ensures.items ∙ length-append c.loop-place.steps.items _ ∙ ap (λ n. n + 1) c.loop-place.invariant.as_many;
  each = steps_more c.args.placed.now c.loop-place.steps.items c.push.new.self.items c.step_at.result c.in_ok-push.ensures.items
      (subst (λ n. IsStep c.args.placed.now n c.step_at.result) (sym c.loop-place.invariant.as_many) c.step_at.ensures) c.loop-place.invariant.each;
}
