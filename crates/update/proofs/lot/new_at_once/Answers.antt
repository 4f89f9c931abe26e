use Rattle.std.proofs.Common.{◌≡◌, Bool, true, List, drop, refl, sym, ap, subst, ◌∙◌, arith}
use Rattle.std.proofs.lemmas.List.{take_rest}
use Rattle.sets.proofs.Every.{all_by}
use Rattle.reads.specs.Reads.{View, Read, Delta}
use Rattle.reads.specs.declared.note.Note.{Note}
use Rattle.asking.specs.Goes.{AreAllowed}
use Rattle.asking.proofs.Notes.{goes_short, goes_as, agreed}
use Rattle.update.specs.Changed.{IsNewOf}
use Rattle.update.specs.Known.{WhatIsKnown, reads_for_untold, Tell}
use Rattle.update.proofs.KnownQuads.{lot_told}
use Rattle.update.proofs.lot.new_at_once.Goals as goal

-- what asks for the lot is allowed
lot_allowed : (allowed : Read → Bool) (k : WhatIsKnown) (asked same : Delta) (reads : List Read) → reads ≡ reads_for_untold k same → same ≡ asked → AreAllowed allowed (reads_for_untold k asked) → AreAllowed allowed reads
lot_allowed allowed k asked same reads are is h = subst (AreAllowed allowed) (sym (are ∙ ap (reads_for_untold k) is)) h

same_reads : (k : WhatIsKnown) (reads others : List Read) (notes : List Note) (d : View) → reads ≡ others → Tell k reads notes d → Tell k others notes d
same_reads k reads others notes d e t = subst (λ rs. Tell k rs notes d) e t

pub returns-in_err-ask_any-clause-goes : goal.returns-in_err-ask_any-clause-goes
returns-in_err-ask_any-clause-goes g c allowed h =
    goes_as _ c.from_residual-in_err-ask_any.ensures.1 (c.in_err-ask_any.ensures.goes allowed (lot_allowed allowed c.args.known.now (record c.args.changes.now { absent = c.args.others.now; gone = c.args.other_names.now }) _ _ (c.deref-3.ensures.value ∙ c.in_ok-reads.ensures) (λ i. record { present = (c.deref.ensures.value ∙ c.in_ok-present.ensures ∙ c.present.ensures.value) i; absent = (c.deref-2.ensures.value ∙ c.in_ok-absent.ensures) i; there = c.there-there.ensures.value i; gone = c.args.other_names.now }) h))

pub returns-in_err-change-clause-goes : goal.returns-in_err-change-clause-goes
returns-in_err-change-clause-goes g c allowed h =
    goes_short _ c.from_residual-in_err-change.ensures.1 (c.in_ok-ask_any.ensures.goes allowed (lot_allowed allowed c.args.known.now (record c.args.changes.now { absent = c.args.others.now; gone = c.args.other_names.now }) _ _ (c.deref-3.ensures.value ∙ c.in_ok-reads.ensures) (λ i. record { present = (c.deref.ensures.value ∙ c.in_ok-present.ensures ∙ c.present.ensures.value) i; absent = (c.deref-2.ensures.value ∙ c.in_ok-absent.ensures) i; there = c.there-there.ensures.value i; gone = c.args.other_names.now }) h))

pub returns-clause-goes : goal.returns-clause-goes
returns-clause-goes g c allowed h =
    c.in_ok-ask_any.ensures.goes allowed (lot_allowed allowed c.args.known.now (record c.args.changes.now { absent = c.args.others.now; gone = c.args.other_names.now }) _ _ (c.deref-3.ensures.value ∙ c.in_ok-reads.ensures) (λ i. record { present = (c.deref.ensures.value ∙ c.in_ok-present.ensures ∙ c.present.ensures.value) i; absent = (c.deref-2.ensures.value ∙ c.in_ok-absent.ensures) i; there = c.there-there.ensures.value i; gone = c.args.other_names.now }) h)

pub returns-clause-told : goal.returns-clause-told
returns-clause-told g c d a =
    let before = agreed (c.in_ok-ask_any.ensures.goes (λ r. true) (all_by (λ r. true ≡ true) (λ r. refl) c.deref-3.result.now)) d a in
    let tells = lot_told c.args.known.now c.deref-3.result.now c.args.notes.now.items c.ask_any.new.notes.items _ c.len-before.result d c.in_ok-ask_any.ensures.noted (omega (arith, c.args.notes.now.ok.0)) (take_rest c.deref-4.result.now c.len-before.result ∙ ap (drop c.len-before.result) c.deref-4.ensures.value) (c.requires d before) a in
    let first : Delta = record { present = c.deref.result.now; absent = c.deref-2.result.now; there = c.there-there.result.now; gone = c.args.other_names.now } in
    let second : Delta = record { present = c.deref-5.result.now; absent = c.deref-6.result.now; there = c.there-there.result.now; gone = c.args.other_names.now } in
    let asked : Delta = record c.args.changes.now { absent = c.args.others.now; gone = c.args.other_names.now } in
    let same : first ≡ second = λ i. record { present = (c.deref.ensures.value ∙ sym c.deref-5.ensures.value) i; absent = (c.deref-2.ensures.value ∙ sym c.deref-6.ensures.value) i; there = c.there-there.result.now; gone = c.args.other_names.now } in
    let are : second ≡ asked = λ i. record { present = (c.deref-5.ensures.value ∙ c.in_ok-present.ensures ∙ c.present.ensures.value) i; absent = (c.deref-6.ensures.value ∙ c.in_ok-absent.ensures) i; there = c.there-there.ensures.value i; gone = c.args.other_names.now } in
    subst (λ it. IsNewOf c.in_ok-change.change it d) are (c.in_ok-change.ensures d (same_reads _ _ _ _ d (c.deref-3.ensures.value ∙ c.in_ok-reads.ensures ∙ ap (reads_for_untold c.args.known.now) same) tells))
