use Rattle.std.proofs.Common.{◌≡◌}
use Rattle.dict.specs.Dictionary.{is_known, numbers}
use Rattle.meaning.specs.Run.{run_of_first}
use Rattle.delta.specs.Sound.{IsDatasetOf}
use Rattle.serial.proofs.sequential.run.Given as goal

abbrev pub invariant-loop-place : goal.invariant-loop-place
invariant-loop-place l = record {
  dataset : IsDatasetOf (is_known l.base.terms) l.current;
  so_far : (l.current, l.replies) ≡ run_of_first (numbers l.base.terms) l.place l.block l.base.dataset;
}
