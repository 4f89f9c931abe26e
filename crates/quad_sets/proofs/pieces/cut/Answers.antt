use Rattle.quad_sets.proofs.Cuts.{cut_is, cut_rises}
use Rattle.quad_sets.proofs.pieces.cut.Goals as goal

pub returns-clause-cut : goal.returns-clause-cut
returns-clause-cut g c =
    cut_is g.met.T.Ord.total c.args.value.now c.args.set.now c.count_below.result c.split_at.result.0.now c.split_at.result.1.now
    c.count_below.ensures c.split_at.ensures.front c.split_at.ensures.back c.requires

pub returns-clause-below : goal.returns-clause-below
returns-clause-below g c =
    (cut_rises g.met.T.Ord.total c.args.value.now c.args.set.now c.split_at.result.0.now c.split_at.result.1.now
    (cut_is g.met.T.Ord.total c.args.value.now c.args.set.now c.count_below.result c.split_at.result.0.now c.split_at.result.1.now
    c.count_below.ensures c.split_at.ensures.front c.split_at.ensures.back c.requires) c.requires).0

pub returns-clause-others : goal.returns-clause-others
returns-clause-others g c =
    (cut_rises g.met.T.Ord.total c.args.value.now c.args.set.now c.split_at.result.0.now c.split_at.result.1.now
    (cut_is g.met.T.Ord.total c.args.value.now c.args.set.now c.count_below.result c.split_at.result.0.now c.split_at.result.1.now
    c.count_below.ensures c.split_at.ensures.front c.split_at.ensures.back c.requires) c.requires).1
