use Rattle.std.proofs.Common.{◌∷◌, [], refl, ap, ◌∙◌}
use Rattle.sets.specs.Sets.{union, without}
use Rattle.datasets.specs.Id.{id_order}
use Rattle.reads.specs.Reads.{told_names, says, applied}
use Rattle.asking.proofs.Notes.{goes_short, told_last}
use Rattle.eval.proofs.naming.graphs.Goals as goal

pub returns-in_err-names-clause-goes : goal.returns-in_err-names-clause-goes
returns-in_err-names-clause-goes g c allowed near = goes_short _ c.from_residual-in_err-names.ensures.1 (c.in_ok-answer.ensures.goes allowed near)

pub returns-clause-noted : goal.returns-clause-noted
returns-clause-noted g c = (_ ∷ [], c.in_ok-answer.ensures.noted, refl)

pub returns-clause-seen : goal.returns-clause-seen
unfolding says applied
returns-clause-seen g c d a =
    c.in_ok-names.ensures
    ∙ ap (λ names. union id_order (without id_order names c.args.changes.now.gone) c.args.changes.now.there)
    (c.names_of.ensures _ (ap told_names (told_last c.args.notes.now.items c.ask.new.notes.items _ d c.in_ok-answer.ensures.noted a)))
