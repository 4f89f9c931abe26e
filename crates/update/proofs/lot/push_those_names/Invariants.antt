use Rattle.std.proofs.Common.{◌≡◌, ◌++◌, Bool, List, drop}
use Rattle.std.specs.Prelude.{filter}
use Rattle.sets.specs.Sets.{has}
use Rattle.datasets.specs.declared.id.Id.{Id}
use Rattle.datasets.specs.Id.{id_order}
use Rattle.reads.specs.Reads.{View, Read}
use Rattle.reads.specs.Same.{bool_eq}
use Rattle.update.specs.Known.{questions_for_untold, Tell}
use Rattle.update.proofs.lot.push_those_names.Given as goal

-- the notes that are left tell of the names that are left; what was found, with what is so of
-- these, is what is so of all
abbrev pub invariant-loop-name : goal.invariant-loop-name
invariant-loop-name l =
    (d : View) (later : List Read) → Tell l.known (questions_for_untold l.known l.names ++ later) l.notes d →
    let so : Id → Bool = λ g. bool_eq l.are_there (has id_order d.names g) in
    Tell l.known (questions_for_untold l.known (drop l.name-index l.names) ++ later) l.left d
    × (l.found.items ++ filter so (drop l.name-index l.names) ≡ l.fn.found.items ++ filter so l.names)
