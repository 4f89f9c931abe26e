use Rattle.std.proofs.Common.{◌≡◌, true, take}
use Rattle.sets.specs.Sets.{has}
use Rattle.datasets.specs.declared.id.Id.{Id}
use Rattle.datasets.specs.Id.{id_order}
use Rattle.version_overlay.specs.Seen.{is_seen}
use Rattle.version_overlay.proofs.change_filter.put_names.Given as goal

abbrev pub invariant-loop-name : goal.invariant-loop-name
invariant-loop-name l = record {
  added : (x : Id) → has id_order (take l.name-index l.names) x ≡ true → is_seen l.seen x ≡ true;
  kept : (x : Id) → is_seen l.initial.seen x ≡ true → is_seen l.seen x ≡ true;
}
