use Rattle.std.proofs.Common.{sym, ap, ◌∙◌}
use Rattle.std.specs.Prelude.{not, ◌&&◌, ◌||◌}
use Rattle.sets.specs.Sets.{has}
use Rattle.datasets.specs.Id.{id_order}
use Rattle.reads.specs.Reads.{told_is, says}
use Rattle.asking.proofs.Notes.{told_last}
use Rattle.eval.proofs.Seen.{name_seen}
use Rattle.eval.proofs.naming.is_graph.Goals as goal

pub returns-clause-seen : goal.returns-clause-seen
unfolding says
returns-clause-seen g c d a =
    let was = c.tells_name-was_there.ensures _ (ap told_is (told_last c.args.notes.now.items c.ask.new.notes.items _ d c.in_ok-answer.ensures.noted a)) in
    c.is_named_after.ensures
    ∙ ap (λ b. (b && not (has id_order c.args.changes.now.gone c.args.name)) || has id_order c.args.changes.now.there c.args.name) was
    ∙ sym (name_seen c.args.name c.args.changes.now d)
