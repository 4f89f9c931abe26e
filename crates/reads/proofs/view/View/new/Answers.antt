use Rattle.reads.proofs.Rising.{rises-nothing, dataset-nothing}
use Rattle.reads.proofs.view.View.new.Goals as goal

pub invariant_of-result : goal.invariant_of-result
invariant_of-result c = rises-nothing _ _ c.new.ensures c.new-2.ensures.items

pub returns-clause-dataset : goal.returns-clause-dataset
returns-clause-dataset c = dataset-nothing _ _ c.new.ensures c.new-2.ensures.items
