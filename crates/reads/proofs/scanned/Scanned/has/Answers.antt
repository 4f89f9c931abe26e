use Rattle.std.proofs.Common.{◌∙◌, ap, Some, None}
use Rattle.sets.specs.Sets.{has}
use Rattle.datasets.specs.Id.{id_order}
use Rattle.reads.specs.Questions.{Question}
use Rattle.reads.proofs.Asked.{told-one, or_false}
use Rattle.reads.proofs.scanned.Scanned.has.Goals as goal

pub returns-in-Some : goal.returns-in-Some
returns-in-Some c =
    ap or_false (told-one (Some c.in-Some.so) _ _ _ c.args.name.now c.in-Some.ensures c.self.invariant (ap (λ (q : Question). q.read) c.self.view_is ∙ c.requires))
    ∙ ap (λ (q : Question). has id_order q.dataset.names c.args.name.now) c.self.view_is

pub returns-in-None : goal.returns-in-None
returns-in-None c =
    ap or_false (told-one None _ _ _ c.args.name.now c.in-None.ensures c.self.invariant (ap (λ (q : Question). q.read) c.self.view_is ∙ c.requires))
    ∙ ap (λ (q : Question). has id_order q.dataset.names c.args.name.now) c.self.view_is
