use Rattle.std.proofs.Common.{◌∙◌, sym, subst}
use Rattle.std.specs.List.Sorted.{IsStrictlySortedBy}
use Rattle.sets.proofs.SetLaws.{sorted-set_of}
use Rattle.datasets.specs.Id.{id_order, id_total, quad_total}
use Rattle.datasets.specs.Dataset.{quad_order}
use Rattle.index_tests.proofs.scans.indexed.Goals as goal

pub new-requires : goal.new-requires
new-requires c = subst (λ quads. IsStrictlySortedBy (quad_order id_order) quads) (sym (c.deref.ensures.value ∙ c.set_of.ensures)) (sorted-set_of (quad_total id_total) c.in_ok-quads.quads.items)
