use Rattle.std.proofs.Common.{rules, ◌≡◌, ◌∙◌, w64, ◌-ℤ◌}
use Rattle.std.specs.Prelude.{Some}
use Rattle.std.specs.Int.RustNames.{FitsSigned}
use Rattle.expr.specs.Numerals.{number_pair}
use Rattle.expr.specs.Outcomes.{seen, of_readings}
use Rattle.expr.proofs.ArithmeticLaws.{calculated}
use Rattle.expr.proofs.arithmetic.difference.Goals as goal

pub returns-in-Some : goal.returns-in-Some
returns-in-Some c =
    let left : FitsSigned w64 c.in-Some.a = search rules in
    let right : FitsSigned w64 c.in-Some.b = search rules in
    let found : Some (c.in-Some.a, c.in-Some.b) ≡ of_readings number_pair (seen c.args.a.now) (seen c.args.b.now) = cc in
    c.integer_of.ensures ∙ calculated ◌-ℤ◌ (seen c.args.a.now) (seen c.args.b.now) c.in-Some.a c.in-Some.b c.checked_sub.result left right found c.checked_sub.ensures
