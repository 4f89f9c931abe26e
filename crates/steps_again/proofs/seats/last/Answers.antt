use Rattle.std.proofs.Common.{Some, ap, ◌∙◌, ◌++◌}
use Rattle.std.specs.Prelude.{option_to_list}
use Rattle.std.proofs.lemmas.List.Elements.{All-pop}
use Rattle.shared.specs.Duty.{IsPassFor}
use Rattle.steps_again.specs.Runs.{duty_of}
use Rattle.steps_again.proofs.seats.last.Goals as goal

pub returns-clause-pass : goal.returns-clause-pass
returns-clause-pass c =
    (All-pop (IsPassFor (duty_of c.args.shared.now c.args.numbered.now)) _ c.pop.new.self.items (Some c.unwrap.result)
    (c.pop.ensures.items ∙ ap (λ o. c.pop.new.self.items ++ option_to_list o) c.unwrap.ensures) c.requires.each).1

pub returns-clause-rest : goal.returns-clause-rest
returns-clause-rest c =
    (All-pop (IsPassFor (duty_of c.args.shared.now c.args.numbered.now)) _ c.pop.new.self.items (Some c.unwrap.result)
    (c.pop.ensures.items ∙ ap (λ o. c.pop.new.self.items ++ option_to_list o) c.unwrap.ensures) c.requires.each).0
