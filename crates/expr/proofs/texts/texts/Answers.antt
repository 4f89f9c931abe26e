use Rattle.std.proofs.Common.{◌≡◌, sym, ap, ◌∙◌}
use Rattle.std.specs.Prelude.{Some}
use Rattle.std.specs.Option.{option_map}
use Rattle.values.specs.Readings.{read_as}
use Rattle.values.specs.Values.{text_pair}
use Rattle.expr.specs.Outcomes.{seen, reading_of}
use Rattle.expr.proofs.OutcomeLaws.{readings_some}
use Rattle.expr.proofs.texts.texts.Goals as goal

pub returns : goal.returns
returns c =
    let left : Some (reading_of c.in_ok-a.a) ≡ option_map read_as (seen c.args.a.now) = sym (ap (option_map reading_of) c.in_ok-a.was) ∙ c.read.ensures in
    let right : Some (reading_of c.in_ok-b.b) ≡ option_map read_as (seen c.args.b.now) = sym (ap (option_map reading_of) c.in_ok-b.was) ∙ c.read-2.ensures in
    c.text_pair.ensures ∙ readings_some text_pair _ _ _ _ left right
