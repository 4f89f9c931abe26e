use Rattle.std.proofs.Common.{◌≡◌, ◌++◌, take}
use Rattle.std.specs.List.{flat_map}
use Rattle.rules.specs.Terms.{terms_of_operation}
use Rattle.rules.proofs.block_terms.add_operations.Given as goal

abbrev pub invariant-loop-operation : goal.invariant-loop-operation
invariant-loop-operation l = l.found.items ≡ l.fn.found.items ++ flat_map terms_of_operation (take l.operation-index l.operations)
