use Rattle.std.proofs.Common.{rules, ◌≡◌, true, w64, sym, ap, ◌∙◌}
use Rattle.std.specs.Int.RustNames.{FitsSigned}
use Rattle.std.proofs.lemmas.Int.{to_z-of_z}
use Rattle.values.specs.Readings.{Number}
use Rattle.expr.specs.Numerals.{without_sign, is_numeral}
use Rattle.expr.proofs.NumeralLaws.{parsed, numeral_parsed}
use Rattle.expr.proofs.reading.integer_read.Goals as goal

pub returns-in-Ok : goal.returns-in-Ok
returns-in-Ok c =
    let fits : FitsSigned w64 c.in-Ok.number = search rules in
    let numeral : is_numeral (without_sign c.args.text.now) ≡ true = cc in
    ap Number (to_z-of_z w64 c.in-Ok.number fits) ∙ sym (ap parsed c.in-Ok.is) ∙ numeral_parsed c.args.text.now c.parse.result numeral c.parse.ensures.value.0
