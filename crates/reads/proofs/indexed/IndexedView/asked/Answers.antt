use Rattle.std.proofs.Common.{◌≡◌, ◌∙◌, ap, sym}
use Rattle.std.proofs.lemmas.Result.{IfOk-weaker}
use Rattle.datasets.specs.declared.read.Read.TheVariants.{Scan}
use Rattle.reads.specs.Reads.{View, Read, says}
use Rattle.reads.proofs.Asked.{says-matching, says-one_name, says-each_name}
use Rattle.reads.proofs.indexed.IndexedView.asked.Goals as goal

at : (r s : Read) (part whole d : View) → r ≡ s → d ≡ part → says s part ≡ says s whole → says r d ≡ says r whole
at r s part whole d e f h = (λ t. says (e t) (f t)) ∙ h ∙ ap (λ z. says z whole) (sym e)

pub returns-in-Scan : goal.returns-in-Scan
returns-in-Scan c =
    IfOk-weaker c.matching_part.result _ _ (λ d f. at c.args.read.now (Scan c.in-Scan.pattern) _ c.args.self.now d c.in-Scan.is f (says-matching c.in-Scan.pattern c.args.self.now)) c.matching_part.ensures

pub returns-in-GraphIs : goal.returns-in-GraphIs
returns-in-GraphIs c =
    IfOk-weaker c.asked.result _ _ (λ d f. f ∙ says-one_name c.args.read.now _ c.self.inside.named c.args.self.now (ap (λ (v : View). v.names) c.self.view_is) c.in-GraphIs.is) c.asked.ensures

pub returns-in-Graphs : goal.returns-in-Graphs
returns-in-Graphs c =
    IfOk-weaker c.asked-in-Graphs.result _ _ (λ d f. f ∙ says-each_name c.args.read.now c.self.inside.named c.args.self.now (ap (λ (v : View). v.names) c.self.view_is) c.in-Graphs.is)
    c.asked-in-Graphs.ensures
