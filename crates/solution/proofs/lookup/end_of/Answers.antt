use Rattle.std.proofs.Common.{rules}
use Rattle.std.specs.Ordering.{is_le}
use Rattle.std.proofs.lemmas.Fn.{always_returns_same}
use Rattle.datasets.specs.declared.id.Id.{Id}
use Rattle.meaning.specs.Mapping.{Mapping}
use Rattle.solution.specs.Lookups.{terms_at, order_at}
use Rattle.solution.specs.MappingOrder.{mapping_total}
use Rattle.solution.proofs.Searching.{up_to_partitioned}
use Rattle.solution.proofs.lookup.end_of.Goals as goal

pub returns-clause-end : goal.returns-clause-end
returns-clause-end c =
    let variables = c.args.variables.now in
    let a = c.args.a.now in
    let sorted = c.args.sorted.now in
    c.partition_point.ensures.partitioned (λ (b : Mapping Id). is_le (order_at variables b a)) (search (rules, always_returns_same))
    (up_to_partitioned mapping_total (terms_at variables) (terms_at variables a) sorted c.requires)
