use Rattle.std.proofs.Common.{sym}
use Rattle.sets.proofs.Places.{lacks, rises}
use Rattle.quad_sets.proofs.Lacking.{has_held}
use Rattle.quad_sets.proofs.near.searched.Goals as goal

pub returns-in-Ok-clause-value : goal.returns-in-Ok-clause-value
returns-in-Ok-clause-value g c = sym (has_held g.met.T.Ord.total c.args.value.now c.args.set.now c.in-Ok.place c.in-Ok.ensures.bound c.in-Ok.ensures.ok)

pub returns-in-Err-clause-value : goal.returns-in-Err-clause-value
returns-in-Err-clause-value g c =
    sym (lacks g.met.T.Ord.total g.met.T.Exact.exact c.args.value.now c.args.set.now c.in-Err.place (c.in-Err.ensures.position (rises g.met.T.Ord.total g.met.T.Exact.exact c.args.value.now c.args.set.now c.requires)))
