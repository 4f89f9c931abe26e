use Rattle.std.proofs.Common.{arith}
use Rattle.std.proofs.lemmas.Result.{IfOk-at_ok}
use Rattle.pool.proofs.Sent.{crew, done, takes, answers}
use mathlib.Core.List.{[]}
use Rattle.pool.specs.Duty.{AreDone}
use Rattle.pool.proofs.Passes.{both_done}
use Rattle.pool.proofs.crew.+Crew-work+fn-Crew-work-join+arg2+fn-Crew-work-join+arg3.Goals as goal

pub join-alone-requires-send-F : goal.join-alone-requires-send-F
join-alone-requires-send-F g t c κs within = takes 1 _ _ _ (crew _ _ _ _ c.requires.shared.0 c.requires.shared.1)

pub join-alone-requires-send-A : goal.join-alone-requires-send-A
join-alone-requires-send-A g t c κs within = answers 3 _ [] _ (done _)

pub returns : goal.returns
returns g t c =
    both_done c.args.self.workers c.in_ok-last.others.workers c.in_ok-last.last.workers c.args.self.seats.items c.in_ok-last.others.seats.items c.in_ok-last.last.seats.items
    c.in_ok-done.done.items c.in_ok-last_done.last_done.items _ c.in_ok-last.ensures.others.0 c.in_ok-last.ensures.last.0 (omega (arith, c.in_ok-last.ensures.count))
    (IfOk-at_ok (λ done. AreDone c.in_ok-last.others.workers c.in_ok-last.others.seats.items done.items) c.in_ok-done.was c.join-alone.ensures.second)
    (IfOk-at_ok (λ done. AreDone c.in_ok-last.last.workers c.in_ok-last.last.seats.items done.items) c.in_ok-last_done.was c.join-alone.ensures.first)
    c.in_ok-append.ensures.items
