use Rattle.std.proofs.Common.{sym, ◌∙◌, arith}
use Rattle.std.proofs.Math.ListN.{length-set}
use Rattle.datasets.specs.Id.{id_order}
use Rattle.datasets.specs.Dataset.{quad_order}
use Rattle.quad_sets.proofs.Lacking.{had, lacked, drop_next, drop_lacked}
use Rattle.quad_sets.proofs.quad_slice.QuadSlice.lacking.Goals as goal

pub loop-i-preserved-then-is_there : goal.loop-i-preserved-then-is_there
loop-i-preserved-then-is_there c = record {
  within = omega arith;
  place = c.has_near-is_there.ensures.place;
  long = c.loop-i.invariant.long;
  first =
      had (quad_order id_order) c.args.self.now c.loop-i.quads.items c.args.quads.items c.loop-i.i c.loop-i.kept c.index.result.now (omega (arith, c.loop-i.invariant.long)) c.loop-i.invariant.long c.loop-i.invariant.others c.index.ensures (sym c.has_near-is_there.ensures.value ∙ c.if-is_there.true) c.loop-i.invariant.first;
  others =
      drop_next (quad_order id_order) c.args.self.now c.loop-i.quads.items c.args.quads.items c.loop-i.i c.loop-i.kept c.index.result.now (omega (arith, c.loop-i.invariant.long)) c.loop-i.invariant.long c.loop-i.invariant.others c.index.ensures;
}

pub loop-i-preserved : goal.loop-i-preserved
loop-i-preserved c = record {
  within = omega arith;
  place = c.has_near-is_there.ensures.place;
  long = length-set c.loop-i.quads.items c.loop-i.kept c.index.result.now ∙ c.loop-i.invariant.long;
  first =
      lacked (quad_order id_order) c.args.self.now c.loop-i.quads.items c.args.quads.items c.loop-i.i c.loop-i.kept c.index.result.now (omega (arith, c.loop-i.invariant.long)) c.loop-i.invariant.long c.loop-i.invariant.others c.index.ensures (sym c.has_near-is_there.ensures.value ∙ c.if-is_there.false) c.loop-i.invariant.within c.loop-i.invariant.first;
  others =
      drop_lacked (quad_order id_order) c.args.self.now c.loop-i.quads.items c.args.quads.items c.loop-i.i c.loop-i.kept c.index.result.now (omega (arith, c.loop-i.invariant.long)) c.loop-i.invariant.long c.loop-i.invariant.others c.index.ensures c.loop-i.invariant.within;
}
