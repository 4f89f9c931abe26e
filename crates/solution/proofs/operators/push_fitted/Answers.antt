use Rattle.std.proofs.Common.{sym, ◌∙◌}
use Rattle.datasets.specs.Id.{id_order}
use Rattle.meaning.specs.Mapping.{fitted}
use Rattle.solution.proofs.Maps.{mapped_more, mapped_same}
use Rattle.solution.proofs.operators.push_fitted.Goals as goal

pub loop-mapping-preserved-in-Continue-1 : goal.loop-mapping-preserved-in-Continue-1
loop-mapping-preserved-in-Continue-1 c =
    c.in_ok-push.ensures.items
    ∙ mapped_more (fitted id_order c.args.place c.args.term) _ _ _ _ _ (sym c.fit.ensures ∙ c.in-Some-fit.is) c.loop-mapping.invariant

pub loop-mapping-preserved : goal.loop-mapping-preserved
loop-mapping-preserved c =
    mapped_same (fitted id_order c.args.place c.args.term) _ _ _ _ (sym c.fit.ensures ∙ c.in_default.is) c.loop-mapping.invariant
