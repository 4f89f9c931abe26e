use Rattle.std.proofs.Common.{◌∙◌, ap}
use Rattle.std.specs.Prelude.{filter}
use Rattle.std.proofs.lemmas.Result.{IfOk-weaker}
use Rattle.datasets.specs.Id.{id_order}
use Rattle.datasets.specs.Dataset.{matches}
use Rattle.reads.specs.Reads.{View}
use Rattle.reads.proofs.Asked.{says-quads, says-has, says-each_name}
use Rattle.reads.proofs.indexed.IndexedView.answer.Goals as goal

pub returns-in_ok-quads-in-Scan-clause-same : goal.returns-in_ok-quads-in-Scan-clause-same
returns-in_ok-quads-in-Scan-clause-same c =
    IfOk-weaker c.new.result _ _
    (λ a f. f
    ∙ says-quads c.args.read.now c.in-Scan.pattern c.in_ok-quads-in-Scan.quads c.args.self.now (c.in_ok-quads-in-Scan.ensures ∙ ap (λ (v : View). filter (matches id_order c.in-Scan.pattern) v.quads) c.self.view_is) c.in-Scan.is)
    c.new.ensures.same

pub returns-in-GraphIs-clause-same : goal.returns-in-GraphIs-clause-same
returns-in-GraphIs-clause-same c =
    IfOk-weaker c.new-in-GraphIs.result _ _
    (λ a f. f ∙ says-has c.args.read.now c.in-GraphIs.name _ _ c.args.self.now c.is_member-is_there.ensures c.names.ensures c.in-GraphIs.is)
    c.new-in-GraphIs.ensures.same

pub returns-in-Graphs-clause-same : goal.returns-in-Graphs-clause-same
returns-in-Graphs-clause-same c =
    IfOk-weaker c.answer.result _ _ (λ a f. f ∙ says-each_name c.args.read.now c.self.inside.named c.args.self.now (ap (λ (v : View). v.names) c.self.view_is) c.in-Graphs.is)
    c.answer.ensures
