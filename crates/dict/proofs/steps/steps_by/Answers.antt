use Rattle.std.proofs.Common.{◌≡◌, ◌-◌, ◌∙◌, List, length, ap, sym, subst, arith}
use Rattle.std.specs.List.{range_with_len}
use Rattle.std.specs.declared.cmp.Ordering.{Ordering}
use Rattle.rayon.specs.Numbers.{nat_range}
use Rattle.rayon.proofs.ListFacts.{IfOk-then}
use Rattle.dict.specs.Ranks.{AreSteps}
use Rattle.dict.proofs.StepLaws.{steps_of_range}
use Rattle.dict.proofs.steps.steps_by.Goals as goal

pub returns : goal.returns
returns g c =
    let ends = c.into_par_iter.ensures in
    let list = c.args.placed.now in
    let whole : length list - 0 ≡ length list = omega arith in
    IfOk-then c.collect.result _ _ c.collect.ensures (λ v h.
    let chain = rw (c.map.ensures.base, c.map.ensures.f) at h.1 in
    let places = chain.1 ∙ (λ i. nat_range (ends.0 i) (ends.1 i)) ∙ ap (range_with_len 0) whole in
    subst (λ (ss : List Ordering). AreSteps list ss) (sym h.2) (steps_of_range list chain.0 h.0 places chain.2))
