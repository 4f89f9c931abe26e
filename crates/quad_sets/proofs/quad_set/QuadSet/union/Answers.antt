use Rattle.std.proofs.Common.{ap, ◌∙◌}
use Rattle.std.proofs.lemmas.Result.{IfOk-weaker}
use Rattle.sets.specs.Sets.{union, without}
use Rattle.datasets.specs.Id.{id_order}
use Rattle.datasets.specs.Dataset.{quad_order}
use Rattle.quad_sets.proofs.Lacking.{without_none}
use Rattle.quad_sets.proofs.quad_set.QuadSet.union.Goals as goal

pub returns : goal.returns
returns c =
    let R = quad_order id_order in
    IfOk-weaker c.changed.result _ _
    (λ set h. h ∙ (λ i. union R (without R c.args.quads.now (c.new.ensures i)) c.args.more.now) ∙ ap (λ xs. union R xs c.args.more.now) (without_none R c.args.quads.now))
    c.changed.ensures
