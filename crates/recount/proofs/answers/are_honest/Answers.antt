use Rattle.std.proofs.Common.{refl}
use Rattle.dict.specs.Dictionary.{is_known}
use Rattle.recount.proofs.CountedLaws.{next_counts, none_left}
use Rattle.recount.proofs.answers.are_honest.Goals as goal

pub loop-note-preserved : goal.loop-note-preserved
loop-note-preserved c rest =
    c.loop-note.invariant
    (next_counts (is_known c.args.dict.now) c.args.notes.now c.loop-note.note-index c.note-item.result c.loop-note-test.true c.note-item.is
    (c.is_honest.ensures.0 c.if-not-is_honest.false) rest)

pub returns : goal.returns
returns c =
    (λ t. c.loop-note.invariant (none_left (is_known c.args.dict.now) c.args.notes.now c.loop-note.note-index c.loop-note-test.false), λ h. refl)
