use Rattle.std.proofs.Common.{drop}
use Rattle.dict.specs.Dictionary.{term_of, is_known}
use Rattle.meaning_laws.specs.Renaming.{renamed_operation, operation_known}
use Rattle.store.specs.Held.{is_held}
use Rattle.store.proofs.Loops.{SoFar}
use Rattle.numbering.proofs.requests.number_operations.Given as goal

abbrev pub invariant-loop-operation : goal.invariant-loop-operation
invariant-loop-operation l = SoFar (renamed_operation (term_of l.numbers)) (operation_known (is_known l.numbers)) (operation_known (is_held l.numbers)) l.list.items (drop l.operation-index l.operations) l.operations
