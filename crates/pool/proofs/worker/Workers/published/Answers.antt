use Rattle.std.proofs.Common.{◌∙◌}
use Rattle.pool.proofs.Passes.{still_adds_and_takes}
use Rattle.pool.proofs.Seen.{adds_and_takes_seen, adds_and_takes_take, same_seen, first_seen, others_seen}
use Rattle.pool.proofs.worker.Workers.published.Goals as goal

pub show_next-requires : goal.show_next-requires
show_next-requires g c =
    first_seen _ _ _ _ (same_seen _ _ _ _ c.from-replies.ensures.0
    (adds_and_takes_seen _ _ _ _ _ _ c.publish_settled-made.result (c.in_ok-reserve.ensures.items ∙ c.new-replies.ensures.items) c.publish_settled-made.ensures))

pub show_settled-requires : goal.show_settled-requires
show_settled-requires g c =
    others_seen _ _ _ _ _ (same_seen _ _ _ _ c.from-replies.ensures.0
    (adds_and_takes_seen _ _ _ _ _ _ c.publish_settled-made.result (c.in_ok-reserve.ensures.items ∙ c.new-replies.ensures.items) c.publish_settled-made.ensures))
    c.show_next.ensures

pub returns-in_err-next-clause-pass : goal.returns-in_err-next-clause-pass
returns-in_err-next-clause-pass g c = still_adds_and_takes _ _ _ _ _ _ _ _ c.requires.pass c.publish_settled-made.ensures

pub returns-clause-pass : goal.returns-clause-pass
returns-clause-pass g c = still_adds_and_takes _ _ _ _ _ _ _ _ c.requires.pass c.publish_settled-made.ensures

pub returns-clause-seen : goal.returns-clause-seen
returns-clause-seen g c = adds_and_takes_take _ _ _ _ _ _ c.publish_settled-made.result _ c.publish_settled-made.ensures c.in_ok-next.was
