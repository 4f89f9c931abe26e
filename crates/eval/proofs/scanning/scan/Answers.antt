use Rattle.std.specs.Prelude.{filter}
use Rattle.std.proofs.Common.{◌∷◌, [], refl, ap, ◌∙◌}
use Rattle.datasets.specs.Id.{id_order}
use Rattle.datasets.specs.Dataset.{matches}
use Rattle.reads.specs.Reads.{told_quads, says}
use Rattle.asking.proofs.Notes.{goes_short, told_last}
use Rattle.eval.proofs.Seen.{scan_seen}
use Rattle.eval.proofs.scanning.scan.Goals as goal

pub returns-in_err-quads-clause-goes : goal.returns-in_err-quads-clause-goes
returns-in_err-quads-clause-goes g c allowed near = goes_short _ c.from_residual-in_err-quads.ensures.1 (c.in_ok-answer.ensures.goes allowed near)

pub returns-clause-noted : goal.returns-clause-noted
returns-clause-noted g c = (_ ∷ [], c.in_ok-answer.ensures.noted, refl)

pub returns-clause-seen : goal.returns-clause-seen
unfolding says
returns-clause-seen g c d a =
    let told = told_last c.args.notes.now.items c.ask.new.notes.items _ d c.in_ok-answer.ensures.noted a in
    c.in_ok-quads.ensures _ (ap told_quads told)
    ∙ scan_seen c.args.pattern.now c.args.changes.now d (filter (matches id_order c.args.pattern.now) d.quads) refl
