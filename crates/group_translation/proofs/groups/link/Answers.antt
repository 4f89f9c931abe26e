use Rattle.std.proofs.Common.{ap, ◌∙◌}
use Rattle.algebra.specs.Plans.{nothing, linked_all, parts_of}
use Rattle.group_translation.proofs.PlanLaws.{linked_push}
use Rattle.group_translation.proofs.groups.link.Goals as goal

pub returns : goal.returns
returns c =
    ap (λ parts. linked_all nothing (parts_of parts)) c.in_ok-push.ensures.items
    ∙ linked_push nothing c.args.parts.now.items (c.args.link, c.args.plan)
