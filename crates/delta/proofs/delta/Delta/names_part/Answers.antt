use Rattle.std.proofs.Common.{sym, subst}
use Rattle.std.specs.List.Sorted.{IsStrictlySortedBy}
use Rattle.datasets.specs.Id.{id_order}
use Rattle.delta.proofs.delta.Delta.names_part.Goals as goal

pub from_sets-requires-clause-there : goal.from_sets-requires-clause-there
from_sets-requires-clause-there c = subst (λ names. IsStrictlySortedBy id_order names) (sym c.in_ok-there.ensures) c.there.ensures.set

pub from_sets-requires-clause-gone : goal.from_sets-requires-clause-gone
from_sets-requires-clause-gone c = subst (λ names. IsStrictlySortedBy id_order names) (sym c.in_ok-gone.ensures) c.gone.ensures.set
