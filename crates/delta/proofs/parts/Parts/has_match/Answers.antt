use Rattle.std.proofs.Common.{◌≡◌, sym, ◌∙◌, subst}
use Rattle.std.specs.Prelude.{◌||◌}
use Rattle.std.specs.List.{list_any}
use Rattle.datasets.specs.Id.{id_order}
use Rattle.datasets.specs.Dataset.{matches}
use Rattle.delta.proofs.Spans.{neither_matches}
use Rattle.delta.proofs.parts.Parts.has_match.Goals as goal

pub returns-else-lets : goal.returns-else-lets
returns-else-lets c =
    subst (λ p. c.lets.result ≡ (list_any (matches id_order c.args.pattern.now) p.present || list_any (matches id_order c.args.pattern.now) p.absent)) c.self.view_is
    (c.if-lets.false
    ∙ sym (neither_matches c.self.inside.span c.args.pattern.now c.self.inside.present c.self.inside.absent c.self.invariant.2 c.self.invariant.3 (sym c.if-lets.ensures)))
