use Rattle.std.specs.Prelude.{map, MatchOption}
use Rattle.std.specs.Char.{to_ascii_lowercase}
use Rattle.std.proofs.Common.{◌≡◌, Some, subst}
use Rattle.terms.specs.Literal.{IsLiteral}
use Rattle.terms.specs.Parts.{parts_value}
use Rattle.nquads_lines.proofs.LiteralLaws.{none_tagged}
use Rattle.nquads_lines.proofs.forms.tagged.Goals as goal

pub returns-in-None-clause-term : goal.returns-in-None-clause-term
returns-in-None-clause-term c =
    let parts = parts_value c.args.lexical c.in_ok-datatype.datatype (Some c.in_ok-lower.lower) in
    none_tagged c.args.lexical c.in_ok-datatype.datatype c.in_ok-lower.lower (map to_ascii_lowercase c.args.tag.now)
    (subst (λ found. MatchOption found (IsLiteral parts → ⊥) (λ l. (l ≡ parts) × IsLiteral l)) c.in-None.is c.in_ok-literal.ensures)
    c.in_ok-datatype.ensures.text c.in_ok-datatype.ensures.form c.in_ok-lower.ensures
