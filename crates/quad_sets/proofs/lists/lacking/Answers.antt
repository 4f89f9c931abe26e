use Rattle.std.proofs.Common.{sym, ◌∙◌, arith}
use Rattle.std.proofs.Math.ListN.{length-set}
use Rattle.quad_sets.proofs.Lacking.{had, lacked, drop_next, drop_lacked}
use Rattle.quad_sets.proofs.lists.lacking.Goals as goal

pub loop-i-preserved-then-is_there : goal.loop-i-preserved-then-is_there
loop-i-preserved-then-is_there g c = record {
  within = omega arith;
  place = c.is_member_near-is_there.ensures.place;
  long = c.loop-i.invariant.long;
  first =
      had g.T.Ord.cmp c.args.set.now c.loop-i.members.items c.args.members.items c.loop-i.i c.loop-i.kept c.index.result.now (omega (arith, c.loop-i.invariant.long)) c.loop-i.invariant.long c.loop-i.invariant.others c.index.ensures (sym c.is_member_near-is_there.ensures.value ∙ c.if-is_there.true) c.loop-i.invariant.first;
  others =
      drop_next g.T.Ord.cmp c.args.set.now c.loop-i.members.items c.args.members.items c.loop-i.i c.loop-i.kept c.index.result.now (omega (arith, c.loop-i.invariant.long)) c.loop-i.invariant.long c.loop-i.invariant.others c.index.ensures;
}

pub loop-i-preserved : goal.loop-i-preserved
loop-i-preserved g c = record {
  within = omega arith;
  place = c.is_member_near-is_there.ensures.place;
  long = length-set c.loop-i.members.items c.loop-i.kept c.index.result.now ∙ c.loop-i.invariant.long;
  first =
      lacked g.T.Ord.cmp c.args.set.now c.loop-i.members.items c.args.members.items c.loop-i.i c.loop-i.kept c.index.result.now (omega (arith, c.loop-i.invariant.long)) c.loop-i.invariant.long c.loop-i.invariant.others c.index.ensures (sym c.is_member_near-is_there.ensures.value ∙ c.if-is_there.false) c.loop-i.invariant.within c.loop-i.invariant.first;
  others =
      drop_lacked g.T.Ord.cmp c.args.set.now c.loop-i.members.items c.args.members.items c.loop-i.i c.loop-i.kept c.index.result.now (omega (arith, c.loop-i.invariant.long)) c.loop-i.invariant.long c.loop-i.invariant.others c.index.ensures c.loop-i.invariant.within;
}
