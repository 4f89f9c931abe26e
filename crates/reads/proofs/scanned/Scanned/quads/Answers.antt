use Rattle.std.proofs.Common.{◌∙◌, ap, Some, None}
use Rattle.std.proofs.lemmas.Result.{IfOk-weaker}
use Rattle.std.specs.Prelude.{filter}
use Rattle.datasets.specs.Id.{id_order}
use Rattle.datasets.specs.Dataset.{matches}
use Rattle.reads.specs.Questions.{Question}
use Rattle.reads.proofs.Asked.{told-scan, or_none}
use Rattle.reads.proofs.scanned.Scanned.quads.Goals as goal

pub returns-in-Some : goal.returns-in-Some
returns-in-Some c =
    IfOk-weaker c.copied.result _ _
    (λ quads e. e
    ∙ ap or_none (told-scan (Some c.in-Some.quads.now) _ _ _ c.args.pattern.now c.in-Some.ensures c.self.invariant (ap (λ (q : Question). q.read) c.self.view_is ∙ c.requires))
    ∙ ap (λ (q : Question). filter (matches id_order c.args.pattern.now) q.dataset.quads) c.self.view_is)
    c.copied.ensures

pub returns-in-None : goal.returns-in-None
returns-in-None c =
    c.new.ensures
    ∙ ap or_none (told-scan None _ _ _ c.args.pattern.now c.in-None.ensures c.self.invariant (ap (λ (q : Question). q.read) c.self.view_is ∙ c.requires))
    ∙ ap (λ (q : Question). filter (matches id_order c.args.pattern.now) q.dataset.quads) c.self.view_is
