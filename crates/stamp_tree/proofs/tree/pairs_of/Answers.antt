use Rattle.std.proofs.Common.{◌+◌, length, ap, ◌∙◌, arith}
use Rattle.std.proofs.lemmas.List.{length-append}
use Rattle.stamp_tree.proofs.Pairs.{paired, each_more}
use Rattle.stamp_tree.proofs.tree.pairs_of.Goals as goal

pub loop-pair-preserved : goal.loop-pair-preserved
loop-pair-preserved c = record {
  as_many = ap length c.in_ok-push.ensures.items ∙ length-append c.loop-pair.pairs.items _ ∙ ap (λ n. n + 1) c.loop-pair.invariant.as_many;
  each = each_more c.args.list.now c.loop-pair.pairs.items c.push.new.self.items c.pair_at.result c.loop-pair.pair c.loop-pair.invariant.as_many c.in_ok-push.ensures.items c.pair_at.ensures c.loop-pair.invariant.each;
}

pub returns-clause-pairs : goal.returns-clause-pairs
returns-clause-pairs c =
    let many = c.loop-pair.invariant.as_many in
    paired c.args.list.now c.loop-pair.pairs.items (omega (arith, many, c.loop-pair.auto.pair-end)) (omega (arith, many, c.loop-pair-test.false)) c.loop-pair.invariant.each
