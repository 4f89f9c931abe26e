use Rattle.std.proofs.Common.{◌≡◌, ◌∙◌, ap, sym}
use Rattle.std.proofs.lemmas.Result.{IfOk-weaker}
use Rattle.datasets.specs.declared.read.Read.TheVariants.{Scan, GraphIs, Graphs}
use Rattle.reads.specs.Reads.{View, Read, says}
use Rattle.reads.specs.Questions.{Question}
use Rattle.reads.proofs.Asked.{says-matching, says-name, says-names}
use Rattle.reads.proofs.scanned.Scanned.part.Goals as goal

at : (r s : Read) (part whole d : View) → r ≡ s → d ≡ part → says s part ≡ says s whole → says r d ≡ says r whole
at r s part whole d e f h = (λ t. says (e t) (f t)) ∙ h ∙ ap (λ z. says z whole) (sym e)

pub returns-in-Scan : goal.returns-in-Scan
returns-in-Scan c =
    IfOk-weaker c.matching_part.result _ _
    (λ d f. at c.args.self.now.read (Scan c.in-Scan.pattern) _ c.args.self.now.dataset d (ap (λ (q : Question). q.read) (sym c.self.view_is) ∙ c.in-Scan.is) f (says-matching c.in-Scan.pattern c.args.self.now.dataset))
    c.matching_part.ensures

pub returns-in-GraphIs : goal.returns-in-GraphIs
returns-in-GraphIs c =
    IfOk-weaker c.name_part.result _ _
    (λ d f. at c.args.self.now.read (GraphIs c.in-GraphIs.name) _ c.args.self.now.dataset d (ap (λ (q : Question). q.read) (sym c.self.view_is) ∙ c.in-GraphIs.is) f (says-name c.in-GraphIs.name c.args.self.now.dataset))
    c.name_part.ensures

pub returns-in-Graphs : goal.returns-in-Graphs
returns-in-Graphs c =
    IfOk-weaker c.names_part.result _ _
    (λ d f. at c.args.self.now.read Graphs _ c.args.self.now.dataset d (ap (λ (q : Question). q.read) (sym c.self.view_is) ∙ c.in-Graphs.is) f (says-names c.args.self.now.dataset))
    c.names_part.ensures
