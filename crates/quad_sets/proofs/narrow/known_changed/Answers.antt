use Rattle.std.proofs.Common.{map, ap, ◌∙◌}
use Rattle.std.proofs.lemmas.Result.{IfOk-weaker}
use Rattle.datasets.specs.Id.{id_order}
use Rattle.datasets.specs.Dataset.{quad_order}
use Rattle.quad_lists.specs.Known.{quad_of}
use Rattle.quad_lists.proofs.Mapped.{sorted-unmap}
use Rattle.quad_sets.proofs.MappedSets.{map-changed}
use Rattle.quad_sets.proofs.narrow.known_changed.Goals as goal

pub changed-requires : goal.changed-requires
changed-requires c = sorted-unmap quad_of (quad_order id_order) c.args.gone.now c.requires

pub returns : goal.returns
returns c =
    IfOk-weaker c.changed.result _ _
    (λ after h. ap (map quad_of) h ∙ map-changed quad_of (quad_order id_order) c.args.quads.items c.args.gone.now c.args.more.now)
    c.changed.ensures
