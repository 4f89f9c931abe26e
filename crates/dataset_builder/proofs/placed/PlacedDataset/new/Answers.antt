use Rattle.std.proofs.Common.{[], refl, rules}
use Rattle.terms.proofs.DataSetLaws.{IsDataset-of}
use Rattle.dataset_builder.proofs.placed.PlacedDataset.new.Goals as goal

pub invariant_of-result : goal.invariant_of-result
invariant_of-result c = record {
  placed = rw (c.new.ensures, c.new-3.ensures.items, c.new-4.ensures.items) (IsDataset-of [] [] (λ g h. h), (refl, refl));
  known_are = rw c.new-2.ensures (search rules);
}
