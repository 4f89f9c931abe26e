use Rattle.std.proofs.Common.{sym, subst}
use Rattle.std.specs.List.Sorted.{IsStrictlySortedBy}
use Rattle.sets.proofs.SetLaws.{sorted-empty}
use Rattle.datasets.specs.Id.{id_order}
use Rattle.datasets.specs.Dataset.{quad_order}
use Rattle.delta.proofs.delta.Delta.absent.Goals as goal

pub returns-in-None-clause-set : goal.returns-in-None-clause-set
returns-in-None-clause-set c = subst (λ qs. IsStrictlySortedBy (quad_order id_order) qs) (sym c.new.ensures) (sorted-empty (quad_order id_order))
