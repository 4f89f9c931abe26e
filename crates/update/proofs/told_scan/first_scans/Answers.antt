use Rattle.std.proofs.Common.{◌≡◌, subst, sym}
use Rattle.reads.specs.Reads.{says}
use Rattle.reads.specs.declared.note.Note.{Note}
use Rattle.update.proofs.KnownQuads.{agrees_at}
use Rattle.update.proofs.FreeScans.{free_more}
use Rattle.update.proofs.told_scan.first_scans.Goals as goal

pub loop-i-preserved : goal.loop-i-preserved
loop-i-preserved c =
    let n : Note = c.index-notes-i.result in
    record {
      told = λ d a.
          c.in_ok-push_told.ensures.told d (subst (λ (m : Note). m.answer ≡ says m.read d) (sym c.index-notes-i.is) (agrees_at c.args.notes.now c.loop-i.i n d c.loop-i-test.true a)) (c.loop-i.invariant.told d a);
      free = free_more c.args.notes.now c.loop-i.i n _ _ c.loop-i-test.true c.index-notes-i.is c.in_ok-push_told.ensures.free c.loop-i.invariant.free;
    }
