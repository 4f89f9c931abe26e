-- Lists with several owners.
use Rattle.std.specs.Prelude.{List, [], Option, Some, None}
use Rattle.std.specs.Arc.{arc_value}
use Rattle.std.specs.declared.sync.Arc.{Arc}
use Rattle.std.specs.declared.vec.Vec.{Vec}

-- the elements, where nothing stands for the empty list
abbrev pub items_of : {T Z Y : Type 0} → Option (Arc (Vec T Z) Y) → List T
items_of (Some items) = (arc_value items).items
items_of None = []
