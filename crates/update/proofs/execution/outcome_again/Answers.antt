use Rattle.std.proofs.Common.{List, sym, subst}
use Rattle.std.proofs.lemmas.Result.{IfOk-weaker}
use Rattle.datasets.specs.Id.{id_order}
use Rattle.dict.specs.Dictionary.{is_known}
use Rattle.terms.specs.declared.term.Term.{Term}
use Rattle.asking.specs.Near.{is_near_request}
use Rattle.reads.specs.Runs.{Agrees}
use Rattle.recount.specs.Counted.{counted_notes}
use Rattle.recount.proofs.RecountLaws.{recounted_so}
use Rattle.update.specs.Asked.{operations_of}
use Rattle.update.proofs.execution.outcome_again.Goals as goal

pub returns-clause-lent : goal.returns-clause-lent
returns-clause-lent g c =
    let near = is_near_request id_order (operations_of c.args.request.now) in
    let went = recounted_so g.S.Source.asks near c.args.recount.now c.outcome_of.new.source c.new-counted.result.items c.outcome_of.new.notes.items _ c.new-counted.ensures.items c.outcome_of.ensures.goes in
    (went.source, went.notes)

pub returns-clause-goes : goal.returns-clause-goes
returns-clause-goes g c =
    let near = is_near_request id_order (operations_of c.args.request.now) in
    (recounted_so g.S.Source.asks near c.args.recount.now c.outcome_of.new.source c.new-counted.result.items c.outcome_of.new.notes.items _ c.new-counted.ensures.items c.outcome_of.ensures.goes).goes

pub returns-clause-least : goal.returns-clause-least
returns-clause-least g c =
    let near = is_near_request id_order (operations_of c.args.request.now) in
    let went = recounted_so g.S.Source.asks near c.args.recount.now c.outcome_of.new.source c.new-counted.result.items c.outcome_of.new.notes.items _ c.new-counted.ensures.items c.outcome_of.ensures.goes in
    IfOk-weaker c.outcome_of.result _ _
    (λ outcome least d set a. least d set (went.told d (subst (λ (ts : List Term). Agrees (counted_notes (is_known ts) c.outcome_of.new.source.notes.now.items) d) (sym c.requires.dict) a)))
    c.outcome_of.ensures.least

pub returns-clause-reply : goal.returns-clause-reply
returns-clause-reply g c =
    let near = is_near_request id_order (operations_of c.args.request.now) in
    let went = recounted_so g.S.Source.asks near c.args.recount.now c.outcome_of.new.source c.new-counted.result.items c.outcome_of.new.notes.items _ c.new-counted.ensures.items c.outcome_of.ensures.goes in
    IfOk-weaker c.outcome_of.result _ _
    (λ outcome reply d set a. reply d set (went.told d (subst (λ (ts : List Term). Agrees (counted_notes (is_known ts) c.outcome_of.new.source.notes.now.items) d) (sym c.requires.dict) a)))
    c.outcome_of.ensures.reply
