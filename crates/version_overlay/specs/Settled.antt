-- What changes make of a dataset, one after another.
use Rattle.std.specs.Prelude.{◌≡◌, false, List, [], ◌∷◌, Option, Some, None}
use Rattle.datasets.specs.Id.{id_order}
use Rattle.change_laws.specs.Laws.{IsRising}
use Rattle.reads.specs.Reads.{View, Delta, Read, says, applied}
use Rattle.version_overlay.specs.declared.change_filter.ChangeFilter.{ChangeFilter}
use Rattle.version_overlay.specs.ChangeFilter.{may_cover}

-- the dataset after these changes, the first of them first
unfoldable pub changed_by : List Delta → View → View
changed_by [] d = d
changed_by (c ∷ cs) d = changed_by cs (applied c d)

-- what is left of a dataset that changes have changed, and the dataset where none has
abbrev pub part_or : View → Option View → View
part_or whole None = whole
part_or whole (Some part) = part

-- what a filter owes: the changes leave a read that it stops as it was
abbrev pub StopsUnchanged : ChangeFilter → List Delta → Type 0
StopsUnchanged filter cs = (r : Read) → may_cover filter r ≡ false → (d : View) → IsRising id_order d → says r (changed_by cs d) ≡ says r d
