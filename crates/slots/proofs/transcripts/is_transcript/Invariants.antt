use Rattle.std.proofs.Common.{◌≡◌, take, map}
use Rattle.incarnations.specs.Kept.{kept_note_of}
use Rattle.slots.proofs.transcripts.is_transcript.Given as goal

abbrev pub invariant-loop-at : goal.invariant-loop-at
invariant-loop-at l = take l.at l.fn.transcript ≡ map kept_note_of (take l.at l.fn.notes)
