use Rattle.std.proofs.Common.{sym, subst}
use Rattle.delta.specs.declared.finished.Finished.{Finished}
use Rattle.replay.specs.Noted.{BeginsWith}
use Rattle.replay.proofs.Again.{first_notes, asks_other}
use Rattle.replay.proofs.notes.run_again.Goals as goal

pub returns-in-Ok-clause-notes : goal.returns-in-Ok-clause-notes
returns-in-Ok-clause-notes c =
    subst (λ (f : Finished). BeginsWith c.args.answering.now.left f.transcript) (sym c.into_finished.ensures.finished) (first_notes _ _ _ c.in-Ok.ensures.asked)

pub returns-in-Err-Stale-clause-none : goal.returns-in-Err-Stale-clause-none
returns-in-Err-Stale-clause-none c = asks_other _ _ _ _ c.in-Err-Stale.field-0-is c.in-Err-Stale.ensures.stops
