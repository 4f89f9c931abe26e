use Rattle.std.proofs.Common.{map, ap, ◌∙◌}
use Rattle.std.proofs.lemmas.Result.{IfOk-weaker}
use Rattle.datasets.specs.Id.{id_order}
use Rattle.datasets.specs.Dataset.{quad_order}
use Rattle.quad_lists.specs.Known.{quad_of}
use Rattle.quad_lists.proofs.Mapped.{sorted-unmap}
use Rattle.quad_sets.proofs.MappedSets.{map-changed}
use Rattle.quad_sets.proofs.narrow.known_changed_in_runs.Goals as goal

pub changed_in_runs-requires-clause-set : goal.changed_in_runs-requires-clause-set
changed_in_runs-requires-clause-set c = sorted-unmap quad_of (quad_order id_order) c.args.quads.now c.requires.quads

pub changed_in_runs-requires-clause-gone : goal.changed_in_runs-requires-clause-gone
changed_in_runs-requires-clause-gone c = sorted-unmap quad_of (quad_order id_order) c.args.gone.now c.requires.gone

pub changed_in_runs-requires-clause-more : goal.changed_in_runs-requires-clause-more
changed_in_runs-requires-clause-more c = sorted-unmap quad_of (quad_order id_order) c.args.more.now c.requires.more

pub returns : goal.returns
returns c =
    IfOk-weaker c.changed_in_runs.result _ _
    (λ after h. ap (map quad_of) h ∙ map-changed quad_of (quad_order id_order) c.args.quads.now c.args.gone.now c.args.more.now)
    c.changed_in_runs.ensures
