use Rattle.std.proofs.Common.{subst, sym}
use Rattle.update.specs.Told.{AreTold}
use Rattle.update.proofs.ToldScans.{told_more, some_told}
use Rattle.update.proofs.told_scan.push_told.Goals as goal

pub returns-in_ok-push-clause-told : goal.returns-in_ok-push-clause-told
returns-in_ok-push-clause-told c d e h =
    subst (AreTold d) (sym c.in_ok-push.ensures.items) (told_more d _ _ h (some_told c.args.note.now _ c.in-Some.scan c.in-Some.is c.in_ok-scan.ensures.told d e))
