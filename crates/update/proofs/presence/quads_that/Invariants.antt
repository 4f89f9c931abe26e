use Rattle.std.proofs.Common.{◌≡◌, ◌≤◌, ◌-◌, None, ◌++◌, Bool, drop, length}
use Rattle.std.specs.Prelude.{filter}
use Rattle.sets.specs.Sets.{has}
use Rattle.datasets.specs.declared.id.Id.{Id}
use Rattle.datasets.specs.declared.quad.Quad.{Quad}
use Rattle.datasets.specs.Dataset.{quad_order}
use Rattle.datasets.specs.Id.{id_order}
use Rattle.reads.specs.Reads.{View, Read}
use Rattle.reads.specs.Runs.{Agrees}
use Rattle.reads.specs.Same.{bool_eq}
use Rattle.asking.specs.Goes.{AreAllowed, Goes}
use Rattle.update.specs.Known.{scans_for_untold}
use Rattle.update.proofs.presence.quads_that.Given as goal

-- what was found, with what is so of those that are left, is what is so of all
abbrev pub invariant-loop-place : goal.invariant-loop-place
invariant-loop-place g l = record {
  within : l.place ≤ length l.quads;
  goes : (allowed : Read → Bool) → AreAllowed allowed (scans_for_untold l.known l.quads) → Goes g.S.Source.asks allowed l.fn.source l.source l.fn.notes.items l.notes.items None;
  asked : (allowed : Read → Bool) → AreAllowed allowed (scans_for_untold l.known l.quads) → AreAllowed allowed (scans_for_untold l.known (drop l.place l.quads));
  told : (d : View) → Agrees l.notes.items d →
      let so : Quad Id → Bool = λ q. bool_eq l.are_there (has (quad_order id_order) d.quads q) in
      l.found.items ++ filter so (drop l.place l.quads) ≡ filter so l.quads;
}

abbrev pub decreases-loop-place : goal.decreases-loop-place
decreases-loop-place g l = length l.quads - l.place
