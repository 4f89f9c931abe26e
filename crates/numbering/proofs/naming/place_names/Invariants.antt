use Rattle.std.proofs.Common.{take}
use Rattle.terms.specs.Placed.{GoesOn}
use Rattle.numbering.specs.Tables.{NamesStandFor}
use Rattle.numbering.proofs.naming.place_names.Given as goal

abbrev pub invariant-loop-name : goal.invariant-loop-name
invariant-loop-name l = GoesOn l.fn.table l.table × NamesStandFor l.fn.table l.table l.list.items (take l.name-index l.names)
