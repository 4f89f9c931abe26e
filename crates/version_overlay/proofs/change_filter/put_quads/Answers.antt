use Rattle.std.proofs.Common.{arith, ap, ◌∙◌}
use Rattle.datasets.specs.Dataset.{matches}
use Rattle.datasets.specs.Id.{id_order}
use Rattle.version_overlay.proofs.Speaking.{any_more}
use Rattle.version_overlay.proofs.change_filter.put_quads.Goals as goal

pub loop-place-preserved : goal.loop-place-preserved
loop-place-preserved c = record {
  added = λ p e.
      any_more (matches id_order p) c.args.quads.now c.loop-place.place c.get.result (omega (arith, c.len-place-end.ensures, c.loop-place-test.true)) e (λ h. c.put.ensures.kept p (c.loop-place.invariant.added p h)) (λ h. c.in_ok-put.ensures.added p (ap (matches id_order p) c.get.ensures ∙ h));
  kept = λ p e. c.put.ensures.kept p (c.loop-place.invariant.kept p e);
}
