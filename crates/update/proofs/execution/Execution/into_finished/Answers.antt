use Rattle.std.proofs.Common.{subst}
use Rattle.dict.specs.Dictionary.{is_known, numbers}
use Rattle.meaning.specs.Run.{answer_of}
use Rattle.recount.specs.Counted.{counted_notes}
use Rattle.update.specs.Executed.{Executed, IsLeastFor, IsReplyFor}
use Rattle.update.proofs.execution.Execution.into_finished.Goals as goal

pub returns-clause-least : goal.returns-clause-least
returns-clause-least c =
    let run = c.self.inside.finished in
    subst (λ (e : Executed). IsLeastFor (answer_of (numbers e.terms) e.place e.request) (counted_notes (is_known e.terms) run.transcript) run.delta)
    c.self.view_is c.self.invariant.least

pub returns-clause-reply : goal.returns-clause-reply
returns-clause-reply c =
    let run = c.self.inside.finished in
    subst (λ (e : Executed). IsReplyFor (answer_of (numbers e.terms) e.place e.request) (counted_notes (is_known e.terms) run.transcript) run.reply)
    c.self.view_is c.self.invariant.reply
