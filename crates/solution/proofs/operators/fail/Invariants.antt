use Rattle.std.proofs.Common.{◌≡◌, drop, map}
use Rattle.std.specs.Prelude.{not, ◌&&◌}
use Rattle.std.specs.List.{list_all}
use Rattle.algebra.specs.Expressions.{expression_of}
use Rattle.datasets.specs.declared.id.Id.{Id}
use Rattle.datasets.specs.Id.{id_order}
use Rattle.meaning.specs.Mapping.{Mapping, compatible, merge}
use Rattle.meaning.specs.Solutions.{passes_all}
use Rattle.solution.proofs.operators.fail.Given as goal

abbrev pub invariant-loop-b : goal.invariant-loop-b
invariant-loop-b g l =
    let test = λ (b : Mapping Id). not (compatible id_order l.a b && passes_all (g.F.Filters.passes l.by) (map expression_of l.filters) (merge l.a b)) in
    list_all test (drop l.b-index l.others) ≡ list_all test l.others
