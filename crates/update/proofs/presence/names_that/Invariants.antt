use Rattle.std.proofs.Common.{◌≡◌, None, ◌++◌, Bool, drop}
use Rattle.std.specs.Prelude.{filter}
use Rattle.sets.specs.Sets.{has}
use Rattle.datasets.specs.declared.id.Id.{Id}
use Rattle.datasets.specs.Id.{id_order}
use Rattle.reads.specs.Reads.{View, Read}
use Rattle.reads.specs.Runs.{Agrees}
use Rattle.reads.specs.Same.{bool_eq}
use Rattle.asking.specs.Goes.{AreAllowed, Goes}
use Rattle.update.specs.Known.{questions_for_untold}
use Rattle.update.proofs.presence.names_that.Given as goal

-- what was found, with what is so of those that are left, is what is so of all
abbrev pub invariant-loop-name : goal.invariant-loop-name
invariant-loop-name g l = record {
  goes : (allowed : Read → Bool) → AreAllowed allowed (questions_for_untold l.known l.names) → Goes g.S.Source.asks allowed l.fn.source l.source l.fn.notes.items l.notes.items None;
  told : (d : View) → Agrees l.notes.items d →
      let so : Id → Bool = λ n. bool_eq l.are_there (has id_order d.names n) in
      l.found.items ++ filter so (drop l.name-index l.names) ≡ filter so l.names;
}
