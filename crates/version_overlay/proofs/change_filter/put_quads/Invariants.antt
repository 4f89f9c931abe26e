use Rattle.std.proofs.Common.{◌≡◌, true, take}
use Rattle.std.specs.List.{list_any}
use Rattle.datasets.specs.declared.id.Id.{Id}
use Rattle.datasets.specs.declared.read.QuadPattern.{QuadPattern}
use Rattle.datasets.specs.Dataset.{matches}
use Rattle.datasets.specs.Id.{id_order}
use Rattle.version_overlay.specs.Seen.{may_match}
use Rattle.version_overlay.proofs.change_filter.put_quads.Given as goal

abbrev pub invariant-loop-place : goal.invariant-loop-place
invariant-loop-place l = record {
  added : (p : QuadPattern Id) → list_any (matches id_order p) (take l.place l.quads) ≡ true → may_match l.seen p ≡ true;
  kept : (p : QuadPattern Id) → may_match l.initial.seen p ≡ true → may_match l.seen p ≡ true;
}
