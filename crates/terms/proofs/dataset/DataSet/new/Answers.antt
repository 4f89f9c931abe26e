use Rattle.terms.proofs.DataSetLaws.{IsDataset-of}
use Rattle.std.proofs.Common.{[], refl}
use Rattle.terms.proofs.dataset.DataSet.new.Goals as goal

pub invariant_of-result : goal.invariant_of-result
invariant_of-result c = rw (c.new.ensures, c.new-2.ensures.items, c.new-3.ensures.items) (IsDataset-of [] [] (λ g h. h), (refl, refl))
