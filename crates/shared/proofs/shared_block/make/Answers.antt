use Rattle.std.proofs.Common.{◌∙◌, ap, sym}
use Rattle.block_machine.specs.Scans.{questions_of}
use Rattle.block_machine.proofs.Asked.{has_scans}
use Rattle.book.specs.Run.{Run}
use Rattle.shared.specs.declared.kept.Kept.{Kept}
use Rattle.shared.specs.declared.kept.Subject.{Subject}
use Rattle.shared.proofs.shared_block.make.Goals as goal

pub step_scanned-reply-requires-clause-scans : goal.step_scanned-reply-requires-clause-scans
step_scanned-reply-requires-clause-scans c =
    has_scans _ c.args.event c.args.scans.now
    (c.requires.scans ∙ ap (λ (s : Subject). questions_of s.base c.args.event) (sym c.requires.has.subject)
    ∙ ap (λ (b : Run). questions_of b.base c.args.event) (sym (ap (λ (k : Kept). k.book) c.deref_mut.ensures.value)))
