use Rattle.std.proofs.Common.{rules, ap, ◌∙◌, [], false}
use Rattle.blocklock.specs.Rule.{rest_of}
use Rattle.blocklock.specs.Passes.{fresh_pass}
use Rattle.blocklock.proofs.Journals.{known_push}
use Rattle.blocklock.proofs.lock.BlockLock.new.Goals as goal

pub loop-worker-preserved : goal.loop-worker-preserved
loop-worker-preserved g c =
    let i = c.loop-worker.invariant in
    let history = g.B.Journaled.history in
    let pass = c.deal.ensures.pass ∙ ap (λ m. record { table = c.in_ok-lock.lock; worker = c.loop-worker.worker; subject = m.0.subject; seen = m.0.seen; holds = false }) i.1 in (
      search rules,
      c.deal.ensures.seat.1 ∙ ap (λ m. (rest_of m.0, [])) i.1,
      search rules,
      search rules,
      known_push (fresh_pass c.in_ok-lock.lock (history c.args.book)) c.loop-worker.passes.items _ c.deal.result c.loop-worker.worker c.push_reserved.ensures.items (search rules) pass i.4,
    )
