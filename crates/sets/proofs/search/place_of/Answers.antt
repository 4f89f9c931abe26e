use Rattle.sets.proofs.Places.{absent}
use Rattle.sets.proofs.search.place_of.Goals as goal

pub returns-clause-none : goal.returns-clause-none
returns-clause-none g c =
    rw c.ok.ensures.value (absent g.met.T.Ord.total g.met.T.Exact.exact c.args.value.now c.args.set.now c.binary_search.result c.binary_search.ensures.position c.requires)
