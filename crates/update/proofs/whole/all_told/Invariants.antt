use Rattle.std.proofs.Common.{◌≡◌, ◌++◌, List, drop}
use Rattle.std.specs.List.{flat_map}
use Rattle.datasets.specs.declared.id.Id.{Id}
use Rattle.datasets.specs.declared.quad.Quad.{Quad}
use Rattle.reads.specs.declared.note.Note.{Note}
use Rattle.update.specs.Whole.{quads_told}
use Rattle.update.proofs.whole.all_told.Given as goal

-- what was told so far, with what the notes that are left tell, is what all tell
abbrev pub invariant-loop-note : goal.invariant-loop-note
invariant-loop-note l =
    let told : Note → List (Quad Id) = λ n. quads_told n.read n.answer in
    l.quads.items ++ flat_map told (drop l.note-index l.notes) ≡ flat_map told l.notes
