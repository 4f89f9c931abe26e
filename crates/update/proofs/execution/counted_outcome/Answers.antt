use Rattle.std.proofs.Common.{rules, ◌≡◌, List, Vec, Global, sym, subst}
use Rattle.datasets.specs.Id.{id_order}
use Rattle.asking.specs.Near.{is_near_request}
use Rattle.asking.specs.Goes.{Goes, stop_of}
use Rattle.asking.proofs.Notes.{goes_on}
use Rattle.reads.specs.declared.note.Note.{Note}
use Rattle.update.specs.Asked.{operations_of}
use Rattle.update.proofs.execution.counted_outcome.Goals as goal

pub returns-clause-goes : goal.returns-clause-goes
returns-clause-goes g c =
    let near = is_near_request id_order (operations_of c.args.request.now) in
    let goes = Goes g.S.Source.asks near in
    let after = c.outcome_again.new.recount in
    let stop = stop_of c.outcome_again.result in
    let by_source = subst (λ s. goes s after.source.now c.new-recount.result.notes.now.items after.notes.now.items stop) c.new-recount.ensures.source.0 c.outcome_again.ensures.goes in
    let again = subst (λ (ns : Vec Note Global). goes c.outcome_of.new.source after.source.now ns.items after.notes.now.items stop) c.new-recount.ensures.notes.0 by_source in
    let both = goes_on c.in_ok-outcome.ensures.goes again in
    let whole : (s : _) → s ≡ after.source.now → (notes : List Note) → notes ≡ after.notes.now.items → goes c.args.source.now s c.args.notes.now.items notes stop
    = λ s e notes f.
    subst (λ z. goes c.args.source.now z c.args.notes.now.items notes stop) (sym e)
    (subst (λ z. goes c.args.source.now after.source.now c.args.notes.now.items z stop) (sym f) both) in
    whole _ (search rules) _ (search rules)
