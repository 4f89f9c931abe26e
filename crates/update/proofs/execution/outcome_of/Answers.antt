use Rattle.std.proofs.Common.{sym, ap, ◌∙◌}
use Rattle.dict.specs.Dictionary.{numbers}
use Rattle.meaning.specs.Run.{answer_of}
use Rattle.update.specs.Changed.{difference}
use Rattle.update.proofs.Differences.{no_difference}
use Rattle.update.proofs.execution.outcome_of.Goals as goal

pub returns-in-Err-clause-least : goal.returns-in-Err-clause-least
returns-in-Err-clause-least g c d h a =
    c.new.ensures ∙ no_difference d h ∙ ap (λ r. difference d (answer_of (numbers c.args.dict.now) c.args.place r d).0) (sym c.in-Err.is)
