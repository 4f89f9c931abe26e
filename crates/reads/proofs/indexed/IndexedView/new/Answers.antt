use Rattle.std.proofs.Common.{ap, ◌∙◌}
use Rattle.sets.specs.Sets.{set_of}
use Rattle.sets.proofs.SetLaws.{set_of-set}
use Rattle.datasets.specs.Id.{id_order, id_total, id_exact, quad_total, quad_exact}
use Rattle.datasets.specs.Dataset.{quad_order}
use Rattle.quad_index.specs.Indexed.{Indexed}
use Rattle.reads.specs.Reads.{View}
use Rattle.reads.proofs.Rising.{rises-names}
use Rattle.reads.proofs.indexed.IndexedView.new.Goals as goal

pub from_sets-named-requires : goal.from_sets-named-requires
from_sets-named-requires c = rises-names _ _ c.args.dataset c.rises.ensures c.new.ensures c.into_parts-quads.ensures.names

pub returns : goal.returns
returns c =
    let R = quad_order id_order in
    let quads =
    ap (λ (i : Indexed). i.quads) c.in_ok-quads.ensures
    ∙ ap (set_of R) (c.into_list.ensures ∙ c.into_parts-quads.ensures.quads)
    ∙ set_of-set (quad_total id_total) (quad_exact id_order id_exact) c.args.dataset.quads c.rises.ensures.quads in
    let names = ap (λ (v : View). v.names) c.from_sets-named.ensures ∙ c.into_parts-quads.ensures.names in
    λ i. record { quads = quads i; names = names i }
