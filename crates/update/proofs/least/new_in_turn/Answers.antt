use Rattle.std.proofs.Common.{◌≡◌, Bool, true, List, ◌++◌, sym, ap, ◌∙◌, subst}
use Rattle.sets.specs.Sets.{set_of, without}
use Rattle.sets.proofs.Every.{all_front, all_back}
use Rattle.datasets.specs.declared.id.Id.{Id}
use Rattle.datasets.specs.declared.quad.Quad.{Quad}
use Rattle.datasets.specs.Dataset.{quad_order}
use Rattle.datasets.specs.Id.{id_order}
use Rattle.reads.specs.Reads.{Read, Delta}
use Rattle.asking.specs.Goes.{AreAllowed}
use Rattle.update.specs.Known.{WhatIsKnown, scans_for_untold, questions_for_untold, reads_for_untold}
use Rattle.asking.proofs.Notes.{goes_on, goes_short, goes_as, agreed}
use Rattle.update.proofs.ToldReads.{any_allowed}
use Rattle.update.proofs.least.new_in_turn.Goals as goal

-- what asks for all parts of a change asks for each
module _ (allowed : Read → Bool) (k : WhatIsKnown) (c : Delta) (all : AreAllowed allowed (reads_for_untold k c)) where
  behind_present : AreAllowed allowed (scans_for_untold k c.absent ++ (questions_for_untold k c.there ++ questions_for_untold k c.gone))
  behind_present = all_back (λ r. allowed r ≡ true) (scans_for_untold k c.present) _ all

  behind_absent : AreAllowed allowed (questions_for_untold k c.there ++ questions_for_untold k c.gone)
  behind_absent = all_back (λ r. allowed r ≡ true) (scans_for_untold k c.absent) _ behind_present

  present_allowed : (quads : List (Quad Id)) → quads ≡ c.present → AreAllowed allowed (scans_for_untold k quads)
  present_allowed quads e = subst (λ qs. AreAllowed allowed (scans_for_untold k qs)) (sym e) (all_front (λ r. allowed r ≡ true) (scans_for_untold k c.present) _ all)

  absent_allowed : AreAllowed allowed (scans_for_untold k c.absent)
  absent_allowed = all_front (λ r. allowed r ≡ true) (scans_for_untold k c.absent) _ behind_present

  there_allowed : (names : List Id) → names ≡ c.there → AreAllowed allowed (questions_for_untold k names)
  there_allowed names e = subst (λ ns. AreAllowed allowed (questions_for_untold k ns)) (sym e) (all_front (λ r. allowed r ≡ true) (questions_for_untold k c.there) _ behind_absent)

  gone_allowed : AreAllowed allowed (questions_for_untold k c.gone)
  gone_allowed = all_back (λ r. allowed r ≡ true) (questions_for_untold k c.there) _ behind_absent

pub quads_that-requires-2 : goal.quads_that-requires-2
quads_that-requires-2 g c d a =
    let any : Read → Bool = λ r. true in
    c.requires d (agreed (c.in_ok-present.ensures.goes any (any_allowed (scans_for_untold c.args.known.now c.present.result))) d a)

pub names_that-requires : goal.names_that-requires
names_that-requires g c d a =
    let any : Read → Bool = λ r. true in
    c.requires d (agreed (c.in_ok-present.ensures.goes any (any_allowed (scans_for_untold c.args.known.now c.present.result))) d (agreed (c.in_ok-absent.ensures.goes any (any_allowed (scans_for_untold c.args.known.now c.args.others.now))) d a))

pub names_that-requires-2 : goal.names_that-requires-2
names_that-requires-2 g c d a =
    let any : Read → Bool = λ r. true in
    c.requires d (agreed (c.in_ok-present.ensures.goes any (any_allowed (scans_for_untold c.args.known.now c.present.result))) d (agreed (c.in_ok-absent.ensures.goes any (any_allowed (scans_for_untold c.args.known.now c.args.others.now))) d (agreed (c.in_ok-there.ensures.goes any (any_allowed (questions_for_untold c.args.known.now c.there.result.now))) d a)))

pub returns-in_err-absent-clause-goes : goal.returns-in_err-absent-clause-goes
returns-in_err-absent-clause-goes g c allowed h =
    goes_as _ c.from_residual-in_err-absent.ensures.1 (goes_on (c.in_ok-present.ensures.goes allowed (present_allowed allowed c.args.known.now (record c.args.changes.now { absent = c.args.others.now; gone = c.args.other_names.now }) h _ c.present.ensures.value)) (c.in_err-absent.ensures.goes allowed (absent_allowed allowed c.args.known.now (record c.args.changes.now { absent = c.args.others.now; gone = c.args.other_names.now }) h)))

pub returns-in_err-there-clause-goes : goal.returns-in_err-there-clause-goes
returns-in_err-there-clause-goes g c allowed h =
    goes_as _ c.from_residual-in_err-there.ensures.1 (goes_on (c.in_ok-present.ensures.goes allowed (present_allowed allowed c.args.known.now (record c.args.changes.now { absent = c.args.others.now; gone = c.args.other_names.now }) h _ c.present.ensures.value)) (goes_on (c.in_ok-absent.ensures.goes allowed (absent_allowed allowed c.args.known.now (record c.args.changes.now { absent = c.args.others.now; gone = c.args.other_names.now }) h)) (c.in_err-there.ensures.goes allowed (there_allowed allowed c.args.known.now (record c.args.changes.now { absent = c.args.others.now; gone = c.args.other_names.now }) h _ c.there.ensures.value))))

pub returns-in_err-gone-clause-goes : goal.returns-in_err-gone-clause-goes
returns-in_err-gone-clause-goes g c allowed h =
    goes_as _ c.from_residual-in_err-gone.ensures.1 (goes_on (c.in_ok-present.ensures.goes allowed (present_allowed allowed c.args.known.now (record c.args.changes.now { absent = c.args.others.now; gone = c.args.other_names.now }) h _ c.present.ensures.value)) (goes_on (c.in_ok-absent.ensures.goes allowed (absent_allowed allowed c.args.known.now (record c.args.changes.now { absent = c.args.others.now; gone = c.args.other_names.now }) h)) (goes_on (c.in_ok-there.ensures.goes allowed (there_allowed allowed c.args.known.now (record c.args.changes.now { absent = c.args.others.now; gone = c.args.other_names.now }) h _ c.there.ensures.value)) (c.in_err-gone.ensures.goes allowed (gone_allowed allowed c.args.known.now (record c.args.changes.now { absent = c.args.others.now; gone = c.args.other_names.now }) h)))))

pub returns-in_err-change-clause-goes : goal.returns-in_err-change-clause-goes
returns-in_err-change-clause-goes g c allowed h =
    goes_short _ c.from_residual-in_err-change.ensures.1 (goes_on (c.in_ok-present.ensures.goes allowed (present_allowed allowed c.args.known.now (record c.args.changes.now { absent = c.args.others.now; gone = c.args.other_names.now }) h _ c.present.ensures.value)) (goes_on (c.in_ok-absent.ensures.goes allowed (absent_allowed allowed c.args.known.now (record c.args.changes.now { absent = c.args.others.now; gone = c.args.other_names.now }) h)) (goes_on (c.in_ok-there.ensures.goes allowed (there_allowed allowed c.args.known.now (record c.args.changes.now { absent = c.args.others.now; gone = c.args.other_names.now }) h _ c.there.ensures.value)) (c.in_ok-gone.ensures.goes allowed (gone_allowed allowed c.args.known.now (record c.args.changes.now { absent = c.args.others.now; gone = c.args.other_names.now }) h)))))

pub returns-clause-goes : goal.returns-clause-goes
returns-clause-goes g c allowed h =
    goes_on (c.in_ok-present.ensures.goes allowed (present_allowed allowed c.args.known.now (record c.args.changes.now { absent = c.args.others.now; gone = c.args.other_names.now }) h _ c.present.ensures.value)) (goes_on (c.in_ok-absent.ensures.goes allowed (absent_allowed allowed c.args.known.now (record c.args.changes.now { absent = c.args.others.now; gone = c.args.other_names.now }) h)) (goes_on (c.in_ok-there.ensures.goes allowed (there_allowed allowed c.args.known.now (record c.args.changes.now { absent = c.args.others.now; gone = c.args.other_names.now }) h _ c.there.ensures.value)) (c.in_ok-gone.ensures.goes allowed (gone_allowed allowed c.args.known.now (record c.args.changes.now { absent = c.args.others.now; gone = c.args.other_names.now }) h))))

pub returns-clause-told : goal.returns-clause-told
returns-clause-told g c d a =
    let any : Read → Bool = λ r. true in
    let after_there = agreed (c.in_ok-gone.ensures.goes any (any_allowed (questions_for_untold c.args.known.now c.args.other_names.now))) d a in
    let after_absent = agreed (c.in_ok-there.ensures.goes any (any_allowed (questions_for_untold c.args.known.now c.there.result.now))) d after_there in
    let after_present = agreed (c.in_ok-absent.ensures.goes any (any_allowed (scans_for_untold c.args.known.now c.args.others.now))) d after_absent in
    record {
      present = c.in_ok-change.ensures.present ∙ ap (set_of (quad_order id_order)) (c.in_ok-present.ensures.told d after_present ∙ ap (λ qs. without (quad_order id_order) qs d.quads) c.present.ensures.value);
      absent = c.in_ok-change.ensures.absent ∙ ap (set_of (quad_order id_order)) (c.in_ok-absent.ensures.told d after_absent);
      there = c.in_ok-change.ensures.there ∙ ap (set_of id_order) (c.in_ok-there.ensures.told d after_there ∙ ap (λ ns. without id_order ns d.names) c.there.ensures.value);
      gone = c.in_ok-change.ensures.gone ∙ ap (set_of id_order) (c.in_ok-gone.ensures.told d a);
    }
