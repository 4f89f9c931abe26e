use Rattle.std.proofs.Common.{◌≡◌, drop}
use Rattle.update.specs.Known.{has_names}
use Rattle.update.proofs.known.graphs_told.Given as goal

-- no note so far tells the names of all graphs
abbrev pub invariant-loop-note : goal.invariant-loop-note
invariant-loop-note l = has_names (drop l.note-index l.notes) ≡ has_names l.notes
