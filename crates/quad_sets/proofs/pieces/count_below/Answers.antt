use Rattle.sets.proofs.Places.{rises}
use Rattle.quad_sets.proofs.Cuts.{below_found, below_missing}
use Rattle.quad_sets.proofs.pieces.count_below.Goals as goal

pub returns-in-Ok : goal.returns-in-Ok
returns-in-Ok g c = below_found g.met.T.Ord.total c.args.value.now c.args.set.now c.in-Ok.place c.in-Ok.ensures.bound c.in-Ok.ensures.ok c.requires

pub returns-in-Err : goal.returns-in-Err
returns-in-Err g c =
    below_missing g.met.T.Ord.total c.args.value.now c.args.set.now c.in-Err.place c.in-Err.ensures.bound
    (c.in-Err.ensures.position (rises g.met.T.Ord.total g.met.T.Exact.exact c.args.value.now c.args.set.now c.requires))
