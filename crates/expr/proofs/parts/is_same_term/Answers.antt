use Rattle.std.proofs.Common.{arith}
use Rattle.std.proofs.lemmas.Grind.{common_steps}
use Rattle.std.proofs.lemmas.Int.{to_z-of_z}
use Rattle.expr.proofs.parts.is_same_term.Goals as goal

pub returns-in-Integer-Literal : goal.returns-in-Integer-Literal
returns-in-Integer-Literal c = grind (arith, common_steps, to_z-of_z, c.is_integer_literal.ensures, c.in-Integer-Literal.is-0, c.in-Integer-Literal.is-1)
