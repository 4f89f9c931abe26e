use Rattle.std.proofs.Common.{ap, ◌∙◌}
use Rattle.shared.specs.Calls.{Viewed}
use Rattle.pool.proofs.AskingAll.{sees_in_turn}
use Rattle.pool.proofs.Seen.{adds_seen}
use Rattle.pool.proofs.asker.AskingSource.ask_all.Goals as goal

pub note_replies-requires-clause-seen : goal.note_replies-requires-clause-seen
note_replies-requires-clause-seen g c =
    adds_seen _ _ _ _ _ c.read_all-made.result (c.in_ok-reserve-2.ensures.items ∙ c.new-replies.ensures.items) c.read_all-made.ensures

pub invariant_of-self : goal.invariant_of-self
invariant_of-self g c =
    let sees = sees_in_turn _ _ _ _ _ c.read_all-made.ensures.in_turn in
    (ap (λ (v : Viewed). v.table) sees ∙ c.self.invariant.0, ap (λ (v : Viewed). v.subject) sees ∙ c.self.invariant.1)
