use Rattle.std.proofs.Common.{List, sym, subst}
use Rattle.reads.specs.Questions.{Question}
use Rattle.block_machine.specs.Scans.{HasScans}
use Rattle.book.specs.Run.{Run}
use Rattle.book.proofs.book.Book.step.Goals as goal

pub step_scanned-requires-clause-scans : goal.step_scanned-requires-clause-scans
step_scanned-requires-clause-scans c =
    subst (λ (scans : List Question). HasScans c.args.self.now.base c.args.event.now scans) (sym c.deref.ensures.value)
    (subst (λ (r : Run). HasScans r.base c.args.event.now c.in_ok-scans.scans.items) c.self.view_is c.in_ok-scans.ensures.enough)
