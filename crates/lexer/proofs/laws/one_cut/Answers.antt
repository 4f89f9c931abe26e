use Rattle.lexer.proofs.CutLaws.{one_cut}
use Rattle.lexer.proofs.laws.one_cut.Goals as goal

pub returns : goal.returns
returns c = one_cut c.runs_are_longest.ensures
