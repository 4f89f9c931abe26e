use Rattle.std.proofs.Common.{◌≡◌, ◌∙◌, ap, sym}
use Rattle.std.proofs.lemmas.Result.{IfOk-weaker}
use Rattle.datasets.specs.declared.read.Read.TheVariants.{Scan, GraphIs, Graphs}
use Rattle.reads.specs.Reads.{View, Delta, Read, says, applied}
use Rattle.delta.proofs.Asked.{after-matching, after-name, after-names}
use Rattle.delta.proofs.delta.Delta.asked.Goals as goal

at : (r s : Read) (part whole c : Delta) → r ≡ s → c ≡ part → ((d : View) → says s (applied part d) ≡ says s (applied whole d)) → (d : View) → says r (applied c d) ≡ says r (applied whole d)
at r s part whole c e f h d = (λ t. says (e t) (applied (f t) d)) ∙ h d ∙ ap (λ z. says z (applied whole d)) (sym e)

pub returns-in-Scan : goal.returns-in-Scan
returns-in-Scan c =
    IfOk-weaker c.matching_part.result _ _ (λ part f. at c.args.read.now (Scan c.in-Scan.pattern) _ c.args.self.now part c.in-Scan.is f (after-matching c.in-Scan.pattern c.args.self.now)) c.matching_part.ensures

pub returns-in-GraphIs : goal.returns-in-GraphIs
returns-in-GraphIs c =
    IfOk-weaker c.name_part.result _ _ (λ part f. at c.args.read.now (GraphIs c.in-GraphIs.name) _ c.args.self.now part c.in-GraphIs.is f (after-name c.in-GraphIs.name c.args.self.now)) c.name_part.ensures

pub returns-in-Graphs : goal.returns-in-Graphs
returns-in-Graphs c =
    IfOk-weaker c.names_part.result _ _ (λ part f. at c.args.read.now Graphs _ c.args.self.now part c.in-Graphs.is f (after-names c.args.self.now)) c.names_part.ensures
