use Rattle.std.proofs.Common.{ap, ◌∙◌, ◌++◌, ◌∷◌, []}
use Rattle.reads.specs.declared.note.Note.{Note}
use Rattle.asking.proofs.Notes.{goes_short, goes_noted}
use Rattle.asking.proofs.noting.ask.Goals as goal

pub returns-in_err-shared-clause-goes : goal.returns-in_err-shared-clause-goes
returns-in_err-shared-clause-goes g c allowed h =
    let n : Note = record { read = c.args.read; answer = c.in_ok-answer.answer } in
    goes_short _ c.from_residual-in_err-shared.ensures.1
    (goes_noted allowed _ _ _ _ n (c.push_reserved.ensures.items ∙ ap (λ ns. ns ++ n ∷ []) c.reserve.ensures.items) c.in_ok-answer.ensures h)
