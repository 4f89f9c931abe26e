use Rattle.std.proofs.Common.{rules}
use Rattle.std.specs.Ordering.{is_lt}
use Rattle.std.proofs.lemmas.Fn.{always_returns_same}
use Rattle.datasets.specs.declared.id.Id.{Id}
use Rattle.meaning.specs.Mapping.{Mapping}
use Rattle.solution.specs.Lookups.{terms_at, order_at}
use Rattle.solution.specs.MappingOrder.{mapping_total}
use Rattle.solution.proofs.Searching.{less_partitioned}
use Rattle.solution.proofs.lookup.start_of.Goals as goal

pub returns-clause-start : goal.returns-clause-start
returns-clause-start c =
    let variables = c.args.variables.now in
    let a = c.args.a.now in
    let sorted = c.args.sorted.now in
    c.partition_point.ensures.partitioned (λ (b : Mapping Id). is_lt (order_at variables b a)) (search (rules, always_returns_same))
    (less_partitioned mapping_total (terms_at variables) (terms_at variables a) sorted c.requires)
