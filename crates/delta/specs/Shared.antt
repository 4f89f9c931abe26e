-- Changes with several owners.
use Rattle.std.specs.Prelude.{Option, Some, None}
use Rattle.std.specs.Arc.{arc_value}
use Rattle.std.specs.declared.sync.Arc.{Arc}
use Rattle.reads.specs.Reads.{Delta, no_change}

-- the change, where nothing stands for none
abbrev pub change_of : {Y : Type 0} → Option (Arc Delta Y) → Delta
change_of (Some parts) = arc_value parts
change_of None = no_change
