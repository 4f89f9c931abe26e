-- When what a run read is so of a dataset.
use Rattle.std.specs.Prelude.{◌≡◌, List, [], ◌∷◌}
use Rattle.reads.specs.Reads.{View, says}
use Rattle.reads.specs.declared.note.Note.{Note}

-- each answer is what its read says of the dataset
abbrev pub Agrees : List Note → View → Type 0
Agrees [] d = Unit {0}
Agrees (n ∷ ns) d = (n.answer ≡ says n.read d) × Agrees ns d
