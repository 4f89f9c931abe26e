use Rattle.std.proofs.Common.{◌∙◌, sym, subst}
use Rattle.lexer.specs.Strings.{IsEscaped}
use Rattle.lexer.proofs.StringLaws.{between_escaped}
use Rattle.lexer.proofs.strings.string_at.Goals as goal

pub new-requires-clause-escaped : goal.new-requires-clause-escaped
new-requires-clause-escaped c = subst IsEscaped (sym (c.in_ok-written.ensures.0 ∙ c.split_at.ensures.front)) (between_escaped _ _ _ c.in_ok-rest.ensures.rest)
