use Rattle.std.specs.Prelude.{◌↔◌, IsTrue}
use Rattle.std.specs.List.Sorted.{IsStrictlySortedBy}
use Rattle.std.proofs.Common.{sym, subst}
use Rattle.datasets.specs.Id.{id_order}
use Rattle.datasets.specs.Dataset.{quad_order}
use Rattle.quad_lists.specs.Known.{quad_of}
use Rattle.quad_lists.specs.Part.{quads_of_part}
use Rattle.quad_lists.specs.declared.part.Part.{Part}
use Rattle.quad_lists.proofs.Mapped.{sorted-map, sorted-unmap}
use Rattle.quad_lists.proofs.part.Part.is_set.Goals as goal

pub returns-in-Narrow : goal.returns-in-Narrow
returns-in-Narrow c =
    subst (λ (p : Part). IsTrue c.is_set.result ↔ IsStrictlySortedBy (quad_order id_order) (quads_of_part p)) (sym c.in-Narrow.is) (
      λ h. sorted-map quad_of (quad_order id_order) c.in-Narrow.known.now (c.is_set.ensures.0 h),
      λ s. c.is_set.ensures.1 (sorted-unmap quad_of (quad_order id_order) c.in-Narrow.known.now s),
    )

pub returns-in-Wide : goal.returns-in-Wide
returns-in-Wide c =
    subst (λ (p : Part). IsTrue c.is_set-in-Wide.result ↔ IsStrictlySortedBy (quad_order id_order) (quads_of_part p)) (sym c.in-Wide.is) c.is_set-in-Wide.ensures
