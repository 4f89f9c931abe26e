-- What the answer to one scan tells of each quad that its pattern lets through.
use Rattle.std.specs.Prelude.{◌≡◌, Bool, true, List, [], ◌∷◌, Option, Some, None, if◌then◌else◌}
use Rattle.std.specs.List.{AllByRecursion}
use Rattle.std.specs.Option.{option_or}
use Rattle.sets.specs.Sets.{has}
use Rattle.datasets.specs.declared.id.Id.{Id}
use Rattle.datasets.specs.declared.quad.Quad.{Quad}
use Rattle.datasets.specs.declared.read.QuadPattern.{QuadPattern}
use Rattle.datasets.specs.Dataset.{Quads, Is, Names, quad_order, matches}
use Rattle.datasets.specs.Id.{id_order}
use Rattle.asking.specs.Near.{is_free}
use Rattle.reads.specs.Reads.{View, Answer}

-- a scan, and the quads that it was told
pub record ToldScan : Type 0 where
  pub pattern : QuadPattern Id
  pub quads : List (Quad Id)

-- the quads that an answer tells, none where it is of another kind
abbrev pub quads_in : Answer → List (Quad Id)
quads_in (Quads quads) = quads
quads_in (Is so) = []
quads_in (Names names) = []

-- whether a quad is there, where the scan's pattern lets it through
abbrev pub told_by : ToldScan → Quad Id → Option Bool
told_by s q = if matches id_order s.pattern q then Some (has (quad_order id_order) s.quads q) else None

-- what the first of the scans tells that lets the quad through
abbrev pub first_told : List ToldScan → Quad Id → Option Bool
first_told [] q = None
first_told (s ∷ ss) q = option_or (told_by s q) (first_told ss q)

-- whether a scan was one of all quads
abbrev pub is_of_all : ToldScan → Bool
is_of_all s = is_free s.pattern

-- what was told of the quads that the pattern lets through is what there is
abbrev pub IsTold : View → ToldScan → Type 0
IsTold d s = (q : Quad Id) → matches id_order s.pattern q ≡ true → has (quad_order id_order) s.quads q ≡ has (quad_order id_order) d.quads q

abbrev pub AreTold : View → List ToldScan → Type 0
AreTold d scans = AllByRecursion (IsTold d) scans
