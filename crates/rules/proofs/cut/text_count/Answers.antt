use Rattle.std.proofs.Common.{ap}
use Rattle.std.specs.Prelude.{not}
use Rattle.rules.proofs.CutLaws.{turn_smaller, turn_counts, turn_bound}
use Rattle.rules.proofs.cut.text_count.Goals as goal

pub loop-goes_on-smaller : goal.loop-goes_on-smaller
loop-goes_on-smaller c =
    turn_smaller c.loop-goes_on.rest.now c.after_text-after.result.now c.after_separator_bytes-rest.result.now c.loop-goes_on.goes_on (not c.is_empty-goes_on.result)
    c.loop-goes_on-test.true c.after_text-after.ensures c.after_separator_bytes-rest.ensures (ap not c.is_empty-goes_on.ensures)

pub loop-goes_on-preserved : goal.loop-goes_on-preserved
loop-goes_on-preserved c = record {
  total = turn_counts c.loop-goes_on.count c.args.bytes.now c.loop-goes_on.rest.now c.after_text-after.result.now c.after_separator_bytes-rest.result.now c.loop-goes_on.goes_on (not c.is_empty-goes_on.result)
      c.loop-goes_on-test.true c.after_text-after.ensures c.after_separator_bytes-rest.ensures (ap not c.is_empty-goes_on.ensures) c.loop-goes_on.invariant.total;
  bound = turn_bound c.loop-goes_on.count c.args.bytes.now c.loop-goes_on.rest.now c.after_text-after.result.now c.after_separator_bytes-rest.result.now (not c.is_empty-goes_on.result)
      c.after_text-after.ensures c.after_separator_bytes-rest.ensures (ap not c.is_empty-goes_on.ensures) (c.loop-goes_on.invariant.bound c.loop-goes_on-test.true);
}
