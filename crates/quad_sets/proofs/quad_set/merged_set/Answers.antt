use Rattle.std.proofs.lemmas.Result.{IfOk-weaker}
use Rattle.quad_sets.proofs.Sorted.{set_of_quads}
use Rattle.quad_sets.proofs.quad_set.merged_set.Goals as goal

pub returns-clause-set : goal.returns-clause-set
returns-clause-set c = IfOk-weaker c.merged.result _ _ (λ set h. set_of_quads _ c.args.quads.items h) c.merged.ensures
