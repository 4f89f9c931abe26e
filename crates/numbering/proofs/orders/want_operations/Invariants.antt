use Rattle.std.proofs.Common.{◌≡◌, take}
use Rattle.std.specs.List.{fold}
use Rattle.numbering.specs.Wanted.{with_operation}
use Rattle.numbering.proofs.orders.want_operations.Given as goal

abbrev pub invariant-loop-operation : goal.invariant-loop-operation
invariant-loop-operation l = l.wanted ≡ fold with_operation l.fn.wanted (take l.operation-index l.operations)
