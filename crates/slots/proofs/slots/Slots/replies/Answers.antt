use Rattle.std.proofs.Common.{◌∙◌, ap}
use Rattle.std.proofs.lemmas.Result.{IfOk-weaker}
use Rattle.validate.specs.Kept.{shown}
use Rattle.slots.specs.Slots.{replies_to}
use Rattle.slots.proofs.Alike.{replies_shown}
use Rattle.slots.proofs.slots.Slots.replies.Goals as goal

pub returns : goal.returns
returns c =
    IfOk-weaker c.replies_before.result _ _
    (λ list e. e ∙ ap (λ xs. replies_to (shown xs) c.args.n) c.as_slice.ensures.value ∙ replies_shown c.self.inside.kept.slots.items c.args.n ∙ ap (λ s. replies_to s c.args.n) c.self.view_is)
    c.replies_before.ensures
