use Rattle.dict.specs.Dictionary.{term_of, is_known}
use Rattle.replay.proofs.Finding.{missing_only}
use Rattle.replay.proofs.lookup.find_place.Goals as goal

pub returns-in_err-find_optional-in-Only : goal.returns-in_err-find_optional-in-Only
returns-in_err-find_optional-in-Only c =
    rw (c.from_residual.ensures, c.in-Only.is) (missing_only (is_known c.args.terms.now) (term_of c.args.terms.now) c.in-Only.graph c.in_err-find_optional-in-Only.ensures)
