use Rattle.std.proofs.Common.{ap, ◌∙◌}
use Rattle.shared.specs.Calls.{Viewed}
use Rattle.pool.proofs.Seen.{made_seen, made_sees}
use Rattle.pool.proofs.asker.AskingSource.ask.Goals as goal

pub shown-requires : goal.shown-requires
shown-requires g c = made_seen _ _ _ c.read.result _ c.read.ensures c.in_ok-reply.was

pub invariant_of-self-2 : goal.invariant_of-self-2
invariant_of-self-2 g c =
    let sees = made_sees _ _ _ c.read.result c.read.ensures in
    (ap (λ (v : Viewed). v.table) sees ∙ c.self.invariant.0, ap (λ (v : Viewed). v.subject) sees ∙ c.self.invariant.1)
