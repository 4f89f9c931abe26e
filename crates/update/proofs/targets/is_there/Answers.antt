use Rattle.std.proofs.Common.{sym, ap, ◌∙◌}
use Rattle.std.proofs.lemmas.Result.{IfOk-weaker}
use Rattle.datasets.specs.Id.{id_order}
use Rattle.asking.specs.Near.{is_near_target}
use Rattle.reads.specs.Reads.{applied}
use Rattle.update.specs.Graphs.{is_target_there}
use Rattle.update.proofs.GraphNearness.{name_near_at}
use Rattle.update.proofs.targets.is_there.Goals as goal

pub returns-in-Graph-clause-goes : goal.returns-in-Graph-clause-goes
returns-in-Graph-clause-goes g c = c.is_graph.ensures.goes (is_near_target id_order c.args.target.now) (name_near_at c.args.target.now c.in-Graph.name c.in-Graph.is)

pub returns-in-Graph-clause-seen : goal.returns-in-Graph-clause-seen
returns-in-Graph-clause-seen g c =
    IfOk-weaker c.is_graph.result _ _ (λ so h d a. h d a ∙ ap (is_target_there (applied c.args.changes.now d)) (sym c.in-Graph.is)) c.is_graph.ensures.seen

pub returns-in-Default-clause-seen : goal.returns-in-Default-clause-seen
returns-in-Default-clause-seen g c d a = ap (is_target_there (applied c.args.changes.now d)) (sym c.in-Default.is)

pub returns-in-Named-clause-seen : goal.returns-in-Named-clause-seen
returns-in-Named-clause-seen g c d a = ap (is_target_there (applied c.args.changes.now d)) (sym c.in-Named.is)

pub returns-in-All-clause-seen : goal.returns-in-All-clause-seen
returns-in-All-clause-seen g c d a = ap (is_target_there (applied c.args.changes.now d)) (sym c.in-All.is)
