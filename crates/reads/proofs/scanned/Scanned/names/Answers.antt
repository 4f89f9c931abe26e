use Rattle.std.proofs.Common.{◌∙◌, ap, Some, None}
use Rattle.reads.specs.Questions.{Question}
use Rattle.reads.proofs.Asked.{told-names, or_none}
use Rattle.reads.proofs.scanned.Scanned.names.Goals as goal

pub returns-in-Some : goal.returns-in-Some
returns-in-Some c =
    ap or_none (told-names (Some c.in-Some.names.now) _ _ _ c.in-Some.ensures c.self.invariant (ap (λ (q : Question). q.read) c.self.view_is ∙ c.requires))
    ∙ ap (λ (q : Question). q.dataset.names) c.self.view_is

pub returns-in-None : goal.returns-in-None
returns-in-None c =
    ap or_none (told-names None _ _ _ c.in-None.ensures c.self.invariant (ap (λ (q : Question). q.read) c.self.view_is ∙ c.requires))
    ∙ ap (λ (q : Question). q.dataset.names) c.self.view_is
