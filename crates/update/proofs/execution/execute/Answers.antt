use Rattle.std.proofs.Common.{List, sym, subst}
use Rattle.reads.specs.declared.note.Note.{Note}
use Rattle.reads.specs.Asking.{Asked}
use Rattle.asking.proofs.Notes.{all_near, all_asked, stops_as, stops_short}
use Rattle.update.specs.Executed.{IsExecuted}
use Rattle.update.proofs.Executions.{executed}
use Rattle.update.proofs.execution.execute.Goals as goal

pub returns-in_err-outcome-clause-stops : goal.returns-in_err-outcome-clause-stops
returns-in_err-outcome-clause-stops g c = stops_as c.new-notes.ensures.items _ c.from_residual.ensures.1 c.in_err-outcome.ensures.goes

pub returns-in_err-transcript-clause-stops : goal.returns-in_err-transcript-clause-stops
returns-in_err-transcript-clause-stops g c = stops_short c.new-notes.ensures.items _ c.from_residual-in_err-transcript.ensures.1 c.in_ok-outcome.ensures.goes

pub invariant_of-result : goal.invariant_of-result
invariant_of-result g c =
    let outcome = c.in_ok-outcome.outcome in
    let near = all_near c.new-notes.ensures.items c.in_ok-outcome.ensures.goes in
    subst (λ (notes : List Note). IsExecuted (record { terms = c.args.dict.now; place = c.args.place; request = c.args.request.now; finished = record { transcript = notes; delta = outcome.delta; reply = outcome.reply } }))
    (sym c.in_ok-transcript.ensures) (executed c.args.dict.now c.args.place c.args.request.now c.counted_outcome.new.notes.items outcome.delta outcome.reply c.in_ok-outcome.ensures.least c.in_ok-outcome.ensures.reply near)

pub returns-clause-asked : goal.returns-clause-asked
returns-clause-asked g c =
    subst (λ (notes : List Note). Asked g.S.Source.asks c.args.source.now notes c.counted_outcome.new.source) (sym c.in_ok-transcript.ensures)
    (all_asked c.new-notes.ensures.items c.in_ok-outcome.ensures.goes)
