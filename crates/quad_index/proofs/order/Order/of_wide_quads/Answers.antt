use Rattle.std.proofs.Common.{List, sym, subst, ◌∙◌}
use Rattle.std.specs.List.Sorted.{IsStrictlySortedBy}
use Rattle.sets.proofs.SetLaws.{sorted-set_of}
use Rattle.datasets.specs.Id.{id_order, id_total, quad_total}
use Rattle.datasets.specs.Dataset.{quad_order}
use Rattle.datasets.specs.declared.id.Id.{Id}
use Rattle.datasets.specs.declared.quad.Quad.{Quad}
use Rattle.quad_index.proofs.order.Order.of_wide_quads.Goals as goal

pub of_set-requires : goal.of_set-requires
of_set-requires c =
    subst (λ (quads : List (Quad Id)). IsStrictlySortedBy (quad_order id_order) quads) (sym (c.as_slice.ensures.value ∙ c.set_of.ensures)) (sorted-set_of (quad_total id_total) c.args.quads.items)
