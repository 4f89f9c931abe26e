use Rattle.std.proofs.Common.{◌≡◌, ◌++◌, Bool, List, drop}
use Rattle.std.specs.Prelude.{filter}
use Rattle.sets.specs.Sets.{has}
use Rattle.datasets.specs.declared.id.Id.{Id}
use Rattle.datasets.specs.declared.quad.Quad.{Quad}
use Rattle.datasets.specs.Dataset.{quad_order}
use Rattle.datasets.specs.Id.{id_order}
use Rattle.reads.specs.Reads.{View, Read}
use Rattle.reads.specs.Same.{bool_eq}
use Rattle.update.specs.Known.{scans_for_untold, Tell}
use Rattle.update.proofs.presence.push_those.Given as goal

-- the notes that are left tell of the quads that are left; what was found, with what is so of
-- these, is what is so of all
abbrev pub invariant-loop-quad : goal.invariant-loop-quad
invariant-loop-quad l =
    (d : View) (later : List Read) → Tell l.known (scans_for_untold l.known l.quads ++ later) l.notes d →
    let so : Quad Id → Bool = λ q. bool_eq l.are_there (has (quad_order id_order) d.quads q) in
    Tell l.known (scans_for_untold l.known (drop l.quad-index l.quads) ++ later) l.left d
    × (l.found.items ++ filter so (drop l.quad-index l.quads) ≡ l.fn.found.items ++ filter so l.quads)
