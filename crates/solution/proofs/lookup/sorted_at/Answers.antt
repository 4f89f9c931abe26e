use Rattle.std.proofs.Common.{rules, sym}
use Rattle.std.specs.Ordering.{is_lt}
use Rattle.std.proofs.lemmas.Fn.{always_returns_same}
use Rattle.std.proofs.lemmas.List.MinMax.{ranks_by}
use Rattle.std.proofs.lemmas.List.Sorted.{list_any-IsPermutation}
use Rattle.datasets.specs.declared.id.Id.{Id}
use Rattle.meaning.specs.Mapping.{Mapping}
use Rattle.solution.specs.Lookups.{terms_at, order_at}
use Rattle.solution.specs.MappingOrder.{mapping_total}
use Rattle.solution.proofs.lookup.sorted_at.Goals as goal

pub returns-clause-sorted : goal.returns-clause-sorted
returns-clause-sorted c =
    c.in_ok-sort_by.ensures.sorted (λ (x y : Mapping Id). is_lt (order_at c.args.variables.now x y)) (ranks_by mapping_total (terms_at c.args.variables.now))
    (search (rules, always_returns_same))

pub returns-clause-members : goal.returns-clause-members
returns-clause-members c test = sym (list_any-IsPermutation test _ _ c.in_ok-sort_by.ensures.permutation)
