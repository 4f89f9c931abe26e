use Rattle.pool.proofs.Passes.{front_may_begin, rest_may_begin}
use Rattle.pool.proofs.crew.Crew.parted.Goals as goal

pub returns-clause-last : goal.returns-clause-last
returns-clause-last g c =
    (c.in_ok-last.ensures.workers.0, rest_may_begin _ _ _ _ _ c.in_ok-last.ensures.workers.0 c.in_ok-last.ensures.last c.requires)

pub returns-clause-others : goal.returns-clause-others
returns-clause-others g c =
    (c.in_ok-last.ensures.workers.1, front_may_begin _ _ _ _ _ c.in_ok-last.ensures.workers.1 c.in_ok-last.ensures.others c.requires)
