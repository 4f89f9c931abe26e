use Rattle.std.specs.List.Sorted.{IsStrictlySortedBy}
use Rattle.std.proofs.Common.{◌∙◌, ap, sym, subst, Some, None}
use Rattle.std.proofs.lemmas.Result.{IfOk-weaker}
use Rattle.sets.specs.Sets.{has, set_of}
use Rattle.sets.proofs.SetLaws.{sorted-empty, sorted-set_of, has-set_of}
use Rattle.datasets.specs.Id.{id_order, id_total, quad_total}
use Rattle.datasets.specs.Dataset.{quad_order}
use Rattle.update.specs.Told.{quads_in}
use Rattle.update.proofs.ToldScans.{quads_are}
use Rattle.update.proofs.told_scan.told_as_set.Goals as goal

pub returns-in_ok-copy-in-Some-clause-set : goal.returns-in_ok-copy-in-Some-clause-set
returns-in_ok-copy-in-Some-clause-set c =
    let Q = quad_order id_order in
    let sorted = subst (λ xs. IsStrictlySortedBy Q xs) (sym c.into_set.ensures) (sorted-set_of (quad_total id_total) c.in_ok-copy-in-Some.copy) in
    IfOk-weaker c.new.result _ _ (λ shared e. subst (λ x. IsStrictlySortedBy Q (quads_in x)) (sym e) sorted) c.new.ensures.same

pub returns-in_ok-copy-in-Some-clause-same : goal.returns-in_ok-copy-in-Some-clause-same
returns-in_ok-copy-in-Some-clause-same c =
    let Q = quad_order id_order in
    let quads = c.in-Some.quads.now in
    IfOk-weaker c.new.result _ _
    (λ shared e q.
    ap (λ x. has Q (quads_in x) q) e
    ∙ ap (λ xs. has Q xs q) (c.into_set.ensures ∙ ap (set_of Q) c.in_ok-copy-in-Some.ensures)
    ∙ has-set_of (quad_total id_total) q quads
    ∙ ap (λ xs. has Q xs q) (sym (quads_are c.args.answer.now (Some quads) c.in-Some.ensures)))
    c.new.ensures.same

pub returns-in-None-clause-set : goal.returns-in-None-clause-set
returns-in-None-clause-set c =
    let Q = quad_order id_order in
    let sorted = subst (λ xs. IsStrictlySortedBy Q xs) (sym (quads_are c.args.answer.now None c.in-None.ensures)) (sorted-empty Q) in
    IfOk-weaker c.copied-in-None.result _ _ (λ copy e. subst (λ x. IsStrictlySortedBy Q (quads_in x)) (sym e) sorted) c.copied-in-None.ensures
