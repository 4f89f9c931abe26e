use Rattle.std.proofs.Common.{◌≡◌, false, take}
use Rattle.std.specs.List.{list_any}
use Rattle.sets.specs.Sets.{has}
use Rattle.datasets.specs.Id.{id_order}
use Rattle.datasets.specs.Dataset.{quad_order}
use Rattle.version_overlay.proofs.level.is_any_of.Given as goal

-- none of the quads so far is one of the set's
abbrev pub invariant-loop-place : goal.invariant-loop-place
invariant-loop-place l = list_any (λ q. has (quad_order id_order) l.set q) (take l.place l.quads) ≡ false
