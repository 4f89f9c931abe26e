use Rattle.std.proofs.Common.{List, sym, ap, subst}
use Rattle.std.specs.List.Sorted.{IsStrictlySortedBy}
use Rattle.sets.proofs.SetLaws.{sorted-set_of}
use Rattle.datasets.specs.Id.{id_order, id_total, quad_total}
use Rattle.datasets.specs.Dataset.{quad_order}
use Rattle.datasets.specs.declared.id.Id.{Id}
use Rattle.datasets.specs.declared.quad.Quad.{Quad}
use Rattle.quad_index.specs.declared.order.Order.{Order}
use Rattle.quad_index.proofs.index.Index.of_quads_by.Goals as goal

pub invariant_of-result : goal.invariant_of-result
invariant_of-result g c = record {
  first = ap (λ (o : Order). o.arrangement) c.in_ok-spog.ensures;
  set = subst (λ (quads : List (Quad Id)). IsStrictlySortedBy (quad_order id_order) quads) (sym (ap (λ (o : Order). o.quads) c.in_ok-spog.ensures)) (sorted-set_of (quad_total id_total) c.args.quads);
  alike = c.in_ok-others.ensures.alike;
}
