-- What notes tell of quads, and of the names of all graphs.
use Rattle.std.specs.Prelude.{◌≡◌, ◌++◌, Bool, true, false, ◌||◌, List, [], map, filter, Option, is_none, if◌then◌else◌}
use Rattle.std.specs.List.{list_any}
use Rattle.std.specs.Option.{option_or}
use Rattle.sets.specs.Sets.{has}
use Rattle.datasets.specs.declared.id.Id.{Id}
use Rattle.datasets.specs.declared.quad.Quad.{Quad}
use Rattle.datasets.specs.declared.read.Read.TheVariants.{Scan, GraphIs, Graphs}
use Rattle.datasets.specs.Dataset.{Quads, Is, Names}
use Rattle.datasets.specs.Id.{id_order}
use Rattle.asking.specs.Near.{is_free}
use Rattle.reads.specs.Reads.{View, Delta, Read, Answer}
use Rattle.reads.specs.Runs.{Agrees}
use Rattle.reads.specs.declared.note.Note.{Note}
use Rattle.reads.specs.Presence.{scan_for}
use Rattle.update.specs.Told.{ToldScan, AreTold, first_told}
use Rattle.update.specs.Whole.{WholeGraphs, KnowsWhole, told_in}

-- whether a read asks for the names of all graphs
abbrev pub is_of_graphs : Read → Bool
is_of_graphs (Scan p) = false
is_of_graphs (GraphIs g) = false
is_of_graphs Graphs = true

-- whether a read is the scan of all quads
abbrev pub is_free_scan : Read → Bool
is_free_scan (Scan p) = is_free p
is_free_scan (GraphIs g) = false
is_free_scan Graphs = false

-- whether one of the notes is of the scan of all quads
abbrev pub has_free_scan : List Note → Bool
has_free_scan notes = list_any (λ n. is_free_scan n.read) notes

-- whether one of the notes is of the names of all graphs
abbrev pub has_names : List Note → Bool
has_names notes = list_any (λ n. is_of_graphs n.read) notes

-- whether notes tell what a read asks for, as they tell of all quads, or the names of all graphs
abbrev pub is_told : List Note → Read → Bool
is_told notes (Scan p) = has_free_scan notes
is_told notes (GraphIs g) = has_names notes
is_told notes Graphs = has_names notes

-- whether a read is allowed, or notes tell what it asks for
abbrev pub or_told : (Read → Bool) → List Note → Read → Bool
or_told allowed notes r = allowed r || is_told notes r

-- the names that an answer tells, none where it is of another kind
abbrev pub names_in : Answer → List Id
names_in (Quads quads) = []
names_in (Is so) = []
names_in (Names names) = names

-- a few scans and what they tell; what others tell of whole graphs; whether the names of all graphs
-- were told, and these names
pub record WhatIsKnown : Type 0 where
  pub scans : List ToldScan
  pub whole : WholeGraphs
  pub has_graphs : Bool
  pub graphs : List Id

-- whether a quad is there, where that was told
abbrev pub told_of : WhatIsKnown → Quad Id → Option Bool
told_of k q = option_or (first_told k.scans q) (told_in k.whole q)

-- what was told is what there is
pub record Knows (k : WhatIsKnown) (d : View) : Type 0 where
  pub scans : AreTold d k.scans
  pub whole : KnowsWhole k.whole d
  pub graphs : k.has_graphs ≡ true → (g : Id) → has id_order k.graphs g ≡ has id_order d.names g

-- where notes tell of all quads, it was told of each whether it is there; where they tell the names
-- of all graphs, these were told
pub record KnowsAll (k : WhatIsKnown) (notes : List Note) : Type 0 where
  pub quads : has_free_scan notes ≡ true → (q : Quad Id) → is_none (told_of k q) ≡ false
  pub names : has_names notes ≡ true → k.has_graphs ≡ true

-- the scans for those of the quads of which it wasn't told whether they are there, in their order
abbrev pub scans_for_untold : WhatIsKnown → List (Quad Id) → List Read
scans_for_untold k quads = map (λ q. scan_for q) (filter (λ q. is_none (told_of k q)) quads)

-- the questions for names, in their order, none where the names of all graphs were told
abbrev pub questions_for_untold : WhatIsKnown → List Id → List Read
questions_for_untold k names = if k.has_graphs then [] else map (λ g. GraphIs g) names

-- the reads for all that a change speaks of, where it wasn't told whether that is there: of quads,
-- and then of names
abbrev pub reads_for_untold : WhatIsKnown → Delta → List Read
reads_for_untold k c =
    scans_for_untold k c.present ++ (scans_for_untold k c.absent ++ (questions_for_untold k c.there ++ questions_for_untold k c.gone))

-- what is known is so of a dataset, and the notes are of these reads and agree with it
pub record Tell (k : WhatIsKnown) (reads : List Read) (notes : List Note) (d : View) : Type 0 where
  pub knows : Knows k d
  pub are_noted : map (λ n. n.read) notes ≡ reads
  pub agrees : Agrees notes d
