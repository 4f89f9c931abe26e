use Rattle.std.proofs.Common.{List, map, sym, subst}
use Rattle.std.specs.List.Sorted.{IsStrictlySortedBy}
use Rattle.sets.proofs.SetLaws.{sorted-set_of}
use Rattle.datasets.specs.Id.{id_order, id_total, quad_total}
use Rattle.datasets.specs.Dataset.{quad_order}
use Rattle.datasets.specs.declared.id.Id.{Id}
use Rattle.datasets.specs.declared.quad.Quad.{Quad}
use Rattle.quad_lists.specs.Known.{quad_of}
use Rattle.quad_index.proofs.order.Order.of_quads_by.Goals as goal

pub of_known_set-requires : goal.of_known_set-requires
of_known_set-requires g c =
    subst (λ (quads : List (Quad Id)). IsStrictlySortedBy (quad_order id_order) quads) (sym c.in_ok-set-in-Narrow.ensures) (sorted-set_of (quad_total id_total) (map quad_of c.in-Narrow.known.items))
