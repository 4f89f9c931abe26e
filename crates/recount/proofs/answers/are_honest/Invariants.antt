use Rattle.std.proofs.Common.{◌≡◌, drop}
use Rattle.dict.specs.Dictionary.{is_known}
use Rattle.recount.specs.Counted.{counted_notes}
use Rattle.recount.proofs.answers.are_honest.Given as goal

-- where the notes that are left count as they came, all do
abbrev pub invariant-loop-note : goal.invariant-loop-note
invariant-loop-note l =
    counted_notes (is_known l.dict) (drop l.note-index l.notes) ≡ drop l.note-index l.notes
    → counted_notes (is_known l.dict) l.notes ≡ l.notes
