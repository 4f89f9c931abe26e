use Rattle.std.specs.Prelude.{IfOk, OnOk}
use Rattle.std.specs.Global.{Vec}
use Rattle.std.proofs.Common.{◌≡◌, Bool, true, List, [], ◌∷◌, Result, Ok, Err, refl, sym, ap, subst, ◌∙◌}
use Rattle.std.proofs.lemmas.Bool.{or_left, or_right}
use Rattle.std.proofs.lemmas.Result.{IfOk-weaker}
use Rattle.sets.proofs.Every.{all_by}
use Rattle.datasets.specs.declared.read.Read.TheVariants.{GraphIs, Graphs}
use Rattle.datasets.specs.declared.id.Id.{Id}
use Rattle.datasets.specs.Id.{id_order}
use Rattle.asking.specs.Near.{is_near_target}
use Rattle.asking.specs.Goes.{AreNoted}
use Rattle.reads.specs.Reads.{Read, applied}
use Rattle.reads.specs.declared.note.Note.{Note}
use Rattle.update.specs.Asked.{AskedNames}
use Rattle.update.specs.Graphs.{names_of}
use Rattle.update.specs.Known.{is_of_graphs, or_told}
use Rattle.update.proofs.GraphNearness.{name_near_at}
use Rattle.update.proofs.ToldReads.{noted_any}
use Rattle.update.proofs.targets.names_of.Goals as goal

-- where the names of all graphs were noted, each name is told
names_told : {E : Type 0} (near : Read → Bool) (notes notes' : List Note) (result : Result (Vec Id) E) → OnOk result (AreNoted (Graphs ∷ []) notes notes')
    → IfOk result (λ names. AskedNames (or_told near notes') names.items)
names_told near notes notes' (Ok names) noted =
    all_by (λ g. or_told near notes' (GraphIs g) ≡ true) (λ g. or_right _ _ (noted_any is_of_graphs Graphs notes notes' noted refl)) names.items
names_told near notes notes' (Err stop) noted = tt

pub returns-in_ok-names-in-Graph-clause-seen : goal.returns-in_ok-names-in-Graph-clause-seen
returns-in_ok-names-in-Graph-clause-seen g c d a = c.in_ok-names-in-Graph.ensures ∙ ap (λ t. names_of t (applied c.args.changes.now d).names) (sym c.in-Graph.is)

pub returns-in-Default-clause-seen : goal.returns-in-Default-clause-seen
returns-in-Default-clause-seen g c d a = c.new.ensures.items ∙ ap (λ t. names_of t (applied c.args.changes.now d).names) (sym c.in-Default.is)

pub returns-in-Named-clause-goes : goal.returns-in-Named-clause-goes
returns-in-Named-clause-goes g c = c.graphs.ensures.goes (is_near_target id_order c.args.target.now) (ap (λ t. is_near_target id_order t Graphs) c.in-Named.is)

pub returns-in-Named-clause-seen : goal.returns-in-Named-clause-seen
returns-in-Named-clause-seen g c =
    IfOk-weaker c.graphs.result _ _ (λ names h d a. h d a ∙ ap (λ t. names_of t (applied c.args.changes.now d).names) (sym c.in-Named.is)) c.graphs.ensures.seen

pub returns-in-All-clause-goes : goal.returns-in-All-clause-goes
returns-in-All-clause-goes g c = c.graphs-in-All.ensures.goes (is_near_target id_order c.args.target.now) (ap (λ t. is_near_target id_order t Graphs) c.in-All.is)

pub returns-in-All-clause-seen : goal.returns-in-All-clause-seen
returns-in-All-clause-seen g c =
    IfOk-weaker c.graphs-in-All.result _ _ (λ names h d a. h d a ∙ ap (λ t. names_of t (applied c.args.changes.now d).names) (sym c.in-All.is)) c.graphs-in-All.ensures.seen

pub returns-in_ok-names-in-Graph-clause-within : goal.returns-in_ok-names-in-Graph-clause-within
returns-in_ok-names-in-Graph-clause-within g c =
    let near = or_told (is_near_target id_order c.args.target.now) c.args.notes.now.items in
    subst (AskedNames near) (sym c.in_ok-names-in-Graph.ensures) (or_left _ _ (name_near_at c.args.target.now c.in-Graph.name c.in-Graph.is), tt)

pub returns-in-Default-clause-within : goal.returns-in-Default-clause-within
returns-in-Default-clause-within g c = subst (AskedNames (or_told (is_near_target id_order c.args.target.now) c.args.notes.now.items)) (sym c.new.ensures.items) tt

pub returns-in-Named-clause-within : goal.returns-in-Named-clause-within
returns-in-Named-clause-within g c = names_told (is_near_target id_order c.args.target.now) c.args.notes.now.items c.graphs.new.notes.items c.graphs.result c.graphs.ensures.noted

pub returns-in-All-clause-within : goal.returns-in-All-clause-within
returns-in-All-clause-within g c = names_told (is_near_target id_order c.args.target.now) c.args.notes.now.items c.graphs-in-All.new.notes.items c.graphs-in-All.result c.graphs-in-All.ensures.noted
