-- Datasets, changes and reads at numbers of terms.
use Rattle.std.specs.Prelude.{Bool, List, [], Option, Some, None}
use Rattle.datasets.specs.declared.id.Id.{Id}
use Rattle.datasets.specs.declared.quad.Quad.{Quad}
use Rattle.datasets.specs.declared.read.Read as reading
use Rattle.datasets.specs.Dataset.{Dataset, Change, Told, Quads, Is, Names, says as tells, apply, covers as speaks, IsDataset as IsDatasetBy}
use Rattle.datasets.specs.Id.{id_order}

abbrev pub View : Type 0
View = Dataset Id

abbrev pub Delta : Type 0
Delta = Change Id

abbrev pub Read : Type 0
Read = reading.Read Id

abbrev pub Answer : Type 0
Answer = Told Id

-- what a read says of a dataset
unfoldable pub says : Read → View → Answer
says r d = tells id_order r d

-- a change applied to a dataset
unfoldable pub applied : Delta → View → View
applied c d = apply id_order c d

-- whether a change speaks of something that the read asks for
unfoldable pub covers : Delta → Read → Bool
covers c r = speaks id_order c r

abbrev pub IsDataset : View → Type 0
IsDataset d = IsDatasetBy id_order d

-- the change that speaks of nothing
abbrev pub no_change : Delta
no_change = record { present = []; absent = []; there = []; gone = [] }

-- the quads, where an answer is to a scan
abbrev pub told_quads : Answer → Option (List (Quad Id))
told_quads (Quads quads) = Some quads
told_quads (Is so) = None
told_quads (Names names) = None

-- whether the name is there, where it is to a question for one name
abbrev pub told_is : Answer → Option Bool
told_is (Is so) = Some so
told_is (Quads quads) = None
told_is (Names names) = None

-- the names, where it is to the question for all
abbrev pub told_names : Answer → Option (List Id)
told_names (Names names) = Some names
told_names (Quads quads) = None
told_names (Is so) = None
