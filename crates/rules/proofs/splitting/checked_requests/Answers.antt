use Rattle.std.proofs.Common.{◌≡◌, length, sym, ◌∙◌}
use Rattle.std.proofs.lemmas.Bool.{eqb-true}
use Rattle.rules.specs.Refusal.{IsChecked}
use Rattle.rules.proofs.CutLaws.{nothing_answered}
use Rattle.rules.proofs.splitting.checked_requests.Goals as goal

pub returns-then-is_empty : goal.returns-then-is_empty
returns-then-is_empty c =
    let zero : length c.args.text.now ≡ 0 = eqb-true _ _ (sym c.is_empty.ensures ∙ c.if-is_empty.true) in
    nothing_answered IsChecked c.args.text.now c.new.result zero c.new.ensures
