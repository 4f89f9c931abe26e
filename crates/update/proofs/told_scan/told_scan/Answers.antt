use Rattle.std.proofs.Common.{ap, ◌∙◌}
use Rattle.reads.specs.Reads.{says}
use Rattle.update.proofs.ToldScans.{scan_is_told}
use Rattle.update.proofs.told_scan.told_scan.Goals as goal

pub returns-clause-told : goal.returns-clause-told
returns-clause-told c d e =
    scan_is_told c.in-Scan.pattern c.args.note.now.answer c.in_ok-answer.answer d c.in_ok-answer.ensures.same (e ∙ ap (λ r. says r d) c.in-Scan.is)
