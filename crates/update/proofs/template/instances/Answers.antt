use Rattle.std.proofs.Common.{arith}
use Rattle.dict.specs.Dictionary.{numbers}
use Rattle.update.proofs.Instances.{instances_more}
use Rattle.update.proofs.template.instances.Goals as goal

pub loop-mapping-preserved : goal.loop-mapping-preserved
loop-mapping-preserved c = record {
  counted = omega arith;
  few = c.loop-mapping.invariant.few;
  made =
      instances_more (numbers c.args.dict.now) c.args.request c.args.op c.args.templates.now c.args.found.now c.loop-mapping.mapping-index c.loop-mapping.rank c.mapping-item.result
      c.loop-mapping.quads.items c.push_instances.new.quads.items _ c.loop-mapping-test.true c.mapping-item.is c.in_ok-push_instances.ensures c.loop-mapping.invariant.made;
}
