use Rattle.std.proofs.Common.{◌∙◌, ap, Some}
use Rattle.incarnations.specs.Statuses.{is_closed}
use Rattle.validate.specs.Below.{slot_at}
use Rattle.slots.proofs.Alike.{status_shown}
use Rattle.slots.proofs.slots.Slots.settle.Goals as goal

pub settle-requires-clause-closed : goal.settle-requires-clause-closed
settle-requires-clause-closed c =
    λ j lt.
    ap (λ st. is_closed (Some st)) (status_shown c.self.inside.kept.slots.items j)
    ∙ ap (λ s. is_closed (Some (slot_at s j).status)) c.self.view_is
    ∙ c.requires.closed j lt
