use Rattle.std.proofs.Common.{◌≡◌, ◌||◌, drop}
use Rattle.std.specs.List.{list_any}
use Rattle.reads.specs.Reads.{View}
use Rattle.reads.specs.Runs.{Agrees}
use Rattle.update.specs.Told.{AreTold, is_of_all}
use Rattle.update.specs.Known.{has_free_scan}
use Rattle.update.proofs.told_scan.first_scans.Given as goal

-- the scans so far are told; a scan of all quads is one of these, or of a note that is left
abbrev pub invariant-loop-i : goal.invariant-loop-i
invariant-loop-i l = record {
  told : (d : View) → Agrees l.notes d → AreTold d l.scans.items;
  free : (list_any is_of_all l.scans.items || has_free_scan (drop l.i l.notes)) ≡ has_free_scan l.notes;
}
