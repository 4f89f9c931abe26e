use Rattle.lexer.proofs.IriLaws.{iri_with_local}
use Rattle.lexer.proofs.laws.iri_with_local.Goals as goal

pub returns : goal.returns
returns c = iri_with_local
