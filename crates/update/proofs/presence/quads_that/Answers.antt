use Rattle.std.specs.Prelude.{slice_range}
use Rattle.std.proofs.Common.{◌≡◌, ◌≤◌, ℕ, ◌++◌, Bool, true, List, [], drop, ap, sym, subst, ◌∙◌, arith}
use Rattle.std.proofs.lemmas.List.Folds.{drop_split}
use Rattle.std.proofs.lemmas.List.{take_rest}
use Rattle.sets.specs.Sets.{has}
use Rattle.sets.proofs.Every.{all_front, all_back}
use Rattle.datasets.specs.declared.id.Id.{Id}
use Rattle.datasets.specs.declared.quad.Quad.{Quad}
use Rattle.datasets.specs.Dataset.{quad_order}
use Rattle.datasets.specs.Id.{id_order}
use Rattle.reads.specs.Reads.{Read}
use Rattle.reads.specs.Same.{bool_eq}
use Rattle.asking.specs.Goes.{AreAllowed}
use Rattle.update.specs.Known.{WhatIsKnown, scans_for_untold}
use Rattle.update.proofs.KnownQuads.{lot_told, tell_no_more}
use Rattle.update.proofs.Members.{filtered_lot}
use Rattle.update.proofs.ToldReads.{scans_both, any_allowed}
use Rattle.asking.proofs.Notes.{goes_on, goes_short, goes_as, agreed}
use Rattle.update.proofs.presence.quads_that.Goals as goal

-- the quads from a place on are those of the lot, and then the others
split : (quads lot : List (Quad Id)) (place past : ℕ) → place ≤ past → lot ≡ slice_range quads place past → drop place quads ≡ lot ++ drop past quads
split quads lot place past le is = drop_split quads place past le ∙ ap (λ xs. xs ++ drop past quads) (sym is)

-- what asks for all quads that are left asks for those of the lot, and for the others
both_allowed : (allowed : Read → Bool) (k : WhatIsKnown) (left lot later : List (Quad Id)) → left ≡ lot ++ later → AreAllowed allowed (scans_for_untold k left) → AreAllowed allowed (scans_for_untold k lot ++ scans_for_untold k later)
both_allowed allowed k left lot later e h = subst (AreAllowed allowed) (ap (scans_for_untold k) e ∙ scans_both k lot later) h

lot_allowed : (allowed : Read → Bool) (k : WhatIsKnown) (left lot later : List (Quad Id)) → left ≡ lot ++ later → AreAllowed allowed (scans_for_untold k left) → AreAllowed allowed (scans_for_untold k lot)
lot_allowed allowed k left lot later e h = all_front (λ r. allowed r ≡ true) (scans_for_untold k lot) (scans_for_untold k later) (both_allowed allowed k left lot later e h)

later_allowed : (allowed : Read → Bool) (k : WhatIsKnown) (left lot later : List (Quad Id)) → left ≡ lot ++ later → AreAllowed allowed (scans_for_untold k left) → AreAllowed allowed (scans_for_untold k later)
later_allowed allowed k left lot later e h = all_back (λ r. allowed r ≡ true) (scans_for_untold k lot) (scans_for_untold k later) (both_allowed allowed k left lot later e h)

pub returns-in_err-part-clause-goes : goal.returns-in_err-part-clause-goes
returns-in_err-part-clause-goes g c allowed h = goes_short _ c.from_residual-in_err-part.ensures.1 (c.loop-place.invariant.goes allowed h)

pub returns-in_err-ask_for_untold-clause-goes : goal.returns-in_err-ask_for_untold-clause-goes
returns-in_err-ask_for_untold-clause-goes g c allowed h =
    goes_as _ c.from_residual-in_err-ask_for_untold.ensures.1 (goes_on (c.loop-place.invariant.goes allowed h) (c.in_err-ask_for_untold.ensures.goes allowed (lot_allowed allowed c.args.known.now _ _ _ (split c.args.quads.now c.as_slice-lot.result.now c.loop-place.place c.min-past.result (omega (arith, c.loop-place-test.true)) (c.as_slice-lot.ensures.value ∙ c.in_ok-part.ensures)) (c.loop-place.invariant.asked allowed h))))

pub returns-in_err-_none-clause-goes : goal.returns-in_err-_none-clause-goes
returns-in_err-_none-clause-goes g c allowed h =
    goes_short _ c.from_residual-in_err-_none.ensures.1 (goes_on (c.loop-place.invariant.goes allowed h) (c.in_ok-ask_for_untold.ensures.goes allowed (lot_allowed allowed c.args.known.now _ _ _ (split c.args.quads.now c.as_slice-lot.result.now c.loop-place.place c.min-past.result (omega (arith, c.loop-place-test.true)) (c.as_slice-lot.ensures.value ∙ c.in_ok-part.ensures)) (c.loop-place.invariant.asked allowed h))))

pub loop-place-preserved : goal.loop-place-preserved
loop-place-preserved g c = record {
  within = omega (arith, c.loop-place-test.true);
  goes = λ allowed h.
      goes_on (c.loop-place.invariant.goes allowed h) (c.in_ok-ask_for_untold.ensures.goes allowed (lot_allowed allowed c.args.known.now _ _ _ (split c.args.quads.now c.as_slice-lot.result.now c.loop-place.place c.min-past.result (omega (arith, c.loop-place-test.true)) (c.as_slice-lot.ensures.value ∙ c.in_ok-part.ensures)) (c.loop-place.invariant.asked allowed h)));
  asked = λ allowed h. later_allowed allowed c.args.known.now _ _ _ (split c.args.quads.now c.as_slice-lot.result.now c.loop-place.place c.min-past.result (omega (arith, c.loop-place-test.true)) (c.as_slice-lot.ensures.value ∙ c.in_ok-part.ensures)) (c.loop-place.invariant.asked allowed h);
  told = λ d a.
      let before = agreed (c.in_ok-ask_for_untold.ensures.goes (λ r. true) (any_allowed (scans_for_untold c.args.known.now c.as_slice-lot.result.now))) d a in
      let start = agreed (c.loop-place.invariant.goes (λ r. true) (any_allowed (scans_for_untold c.args.known.now c.args.quads.now))) d before in
      let tells = lot_told c.args.known.now _ c.loop-place.notes.items c.ask_for_untold.new.notes.items _ c.len-before.result d c.in_ok-ask_for_untold.ensures.noted (omega (arith, c.loop-place.notes.ok.0)) (take_rest c.deref.result.now c.len-before.result ∙ ap (drop c.len-before.result) c.deref.ensures.value) (c.requires d start) a in
      filtered_lot (λ q. bool_eq c.args.are_there (has (quad_order id_order) d.quads q)) _ _ _ _ _ _ (split c.args.quads.now c.as_slice-lot.result.now c.loop-place.place c.min-past.result (omega (arith, c.loop-place-test.true)) (c.as_slice-lot.ensures.value ∙ c.in_ok-part.ensures)) (c.in_ok-_none.ensures d [] (tell_no_more _ _ _ _ tells)).0 (c.loop-place.invariant.told d before);
}
