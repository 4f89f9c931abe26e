use Rattle.std.proofs.Common.{◌≡◌, ◌++◌, drop}
use Rattle.update.specs.Whole.{places_told}
use Rattle.update.proofs.whole.places_told.Given as goal

-- the places so far, with those that the notes that are left tell, are those that all tell
abbrev pub invariant-loop-note : goal.invariant-loop-note
invariant-loop-note l = l.places.items ++ places_told (drop l.note-index l.notes) ≡ places_told l.notes
