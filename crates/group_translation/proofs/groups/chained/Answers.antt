use Rattle.std.proofs.Common.{ap, ◌∙◌}
use Rattle.algebra.proofs.Folds.{chain_is}
use Rattle.algebra.specs.Expressions.{chained, expression_of, steps_of}
use Rattle.group_translation.proofs.PlanLaws.{reversed_chain}
use Rattle.group_translation.proofs.groups.chained.Goals as goal

pub returns : goal.returns
returns c =
    chain_is c.in_ok-new.field-0 c.reverse.new.self
    ∙ ap (λ e. chained (expression_of e) (steps_of c.reverse.new.self.items)) c.in_ok-new.ensures.ok
    ∙ ap (λ steps. chained (expression_of c.args.first) (steps_of steps)) c.reverse.ensures.items
    ∙ reversed_chain (expression_of c.args.first) c.args.steps.items
