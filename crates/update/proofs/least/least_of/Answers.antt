use Rattle.std.proofs.Common.{◌≡◌, Bool, true, List, sym, ◌∙◌, subst}
use Rattle.std.proofs.lemmas.Result.{IfOk-weaker}
use Rattle.sets.proofs.Every.{all_kept}
use Rattle.datasets.specs.declared.read.Read.TheVariants.{GraphIs}
use Rattle.reads.specs.Reads.{View, Delta, Read, IsDataset, applied}
use Rattle.reads.specs.Presence.{scan_for}
use Rattle.reads.specs.declared.note.Note.{Note}
use Rattle.asking.specs.Goes.{AreAllowed}
use Rattle.update.specs.Asked.{IsWithin}
use Rattle.update.specs.Known.{or_told, WhatIsKnown, KnowsAll, reads_for_untold}
use Rattle.update.specs.Changed.{difference, IsNewOf}
use Rattle.update.proofs.Differences.{asked_of, asked_is, least_is}
use Rattle.update.proofs.ToldReads.{change_allowed}
use Rattle.update.proofs.least.least_of.Goals as goal

-- what is asked for of a change is of what it speaks of
within : (allowed : Read → Bool) (c asked : Delta) → asked ≡ asked_of c → IsWithin allowed c → IsWithin allowed asked
within allowed c asked e h = subst (IsWithin allowed) (sym e) (record {
  present = h.present;
  absent = all_kept (λ q. allowed (scan_for q) ≡ true) _ c.absent h.absent;
  there = h.there;
  gone = all_kept (λ g. allowed (GraphIs g) ≡ true) _ c.gone h.gone;
})

-- what notes don't tell of it may be asked for
asked_allowed : (allowed : Read → Bool) (k : WhatIsKnown) (notes same : List Note) (c asked : Delta) → same ≡ notes → KnowsAll k same → asked ≡ asked_of c
    → IsWithin (or_told allowed notes) c → AreAllowed allowed (reads_for_untold k asked)
asked_allowed allowed k notes same c asked are all e h =
    change_allowed allowed k notes (subst (KnowsAll k) are all) asked (within (or_told allowed notes) c asked e h)

-- what is new of what is asked for is what the change really changes
new_is_least : (change c asked : Delta) (d : View) → asked ≡ asked_of c → IsDataset d → IsNewOf change asked d → change ≡ difference d (applied c d)
new_is_least change c asked d e h new = least_is change c d h (subst (λ it. IsNewOf change it d) e new)

pub returns-then-count_of-le-AT_ONCE-clause-goes : goal.returns-then-count_of-le-AT_ONCE-clause-goes
returns-then-count_of-le-AT_ONCE-clause-goes g c allowed h =
    c.new_at_once.ensures.goes allowed (asked_allowed allowed c.in_ok-known.known c.args.notes.now.items _ c.args.changes.now _ c.as_slice.ensures.value c.in_ok-known.ensures.all (asked_is c.args.changes.now _ _ _ _ _ _ (c.as_slice-others.ensures.value ∙ c.in_ok-kept.ensures) c.absent.ensures.value c.present.ensures.value (c.deref-then-count_of-le-AT_ONCE.ensures.value ∙ c.in_ok-other_names.ensures) c.gone.ensures.value c.there.ensures.value) h)

pub returns-then-count_of-le-AT_ONCE-clause-least : goal.returns-then-count_of-le-AT_ONCE-clause-least
returns-then-count_of-le-AT_ONCE-clause-least g c =
    IfOk-weaker c.new_at_once.result _ _ (λ change told d h a. new_is_least change c.args.changes.now _ d (asked_is c.args.changes.now _ _ _ _ _ _ (c.as_slice-others.ensures.value ∙ c.in_ok-kept.ensures) c.absent.ensures.value c.present.ensures.value (c.deref-then-count_of-le-AT_ONCE.ensures.value ∙ c.in_ok-other_names.ensures) c.gone.ensures.value c.there.ensures.value) h (told d a)) c.new_at_once.ensures.told

pub returns-clause-goes : goal.returns-clause-goes
returns-clause-goes g c allowed h =
    c.new_in_turn.ensures.goes allowed (asked_allowed allowed c.in_ok-known.known c.args.notes.now.items _ c.args.changes.now _ c.as_slice.ensures.value c.in_ok-known.ensures.all (asked_is c.args.changes.now _ _ _ _ _ _ (c.as_slice-others.ensures.value ∙ c.in_ok-kept.ensures) c.absent.ensures.value c.present.ensures.value (c.deref-else-count_of-le-AT_ONCE.ensures.value ∙ c.in_ok-other_names.ensures) c.gone.ensures.value c.there.ensures.value) h)

pub returns-clause-least : goal.returns-clause-least
returns-clause-least g c =
    IfOk-weaker c.new_in_turn.result _ _ (λ change told d h a. new_is_least change c.args.changes.now _ d (asked_is c.args.changes.now _ _ _ _ _ _ (c.as_slice-others.ensures.value ∙ c.in_ok-kept.ensures) c.absent.ensures.value c.present.ensures.value (c.deref-else-count_of-le-AT_ONCE.ensures.value ∙ c.in_ok-other_names.ensures) c.gone.ensures.value c.there.ensures.value) h (told d a)) c.new_in_turn.ensures.told
