use Rattle.dict.specs.Dictionary.{term_of, is_known}
use Rattle.replay.proofs.Finding.{missing_scan}
use Rattle.replay.proofs.lookup.find_read.Goals as goal

pub returns-in_err-find_pattern-in-Scan : goal.returns-in_err-find_pattern-in-Scan
returns-in_err-find_pattern-in-Scan c =
    rw (c.from_residual.ensures, c.in-Scan.is) (missing_scan (is_known c.args.terms.now) (term_of c.args.terms.now) c.in-Scan.pattern c.in_err-find_pattern-in-Scan.ensures)
