use Rattle.std.proofs.Common.{◌≡◌, ◌+◌, List, [], ◌∷◌, drop, sym, ap, ◌∙◌}
use Rattle.syntax_trees.specs.declared.tree.Step.{Step}
use Rattle.syntax_trees.specs.declared.tree.Step.TheVariants as step
use Rattle.faults.specs.declared.walk.Walk.{Walk}
use Rattle.faults.specs.Kinds.{is_among}
use Rattle.faults.specs.Walk.{kinds_with}
use Rattle.faults.proofs.KindLaws.{stepped}
use Rattle.rules.proofs.VerdictLaws.{made_stepped, declared_made, done_made, is_refused, is_accepted}
use Rattle.rules.proofs.request.check.Goals as goal
use Rattle.rules.proofs.request.check.Goals.{in-Declare+in_ok-declare-in-Declare, in-Do+in_ok-take_operation-in-Do}

pub loop-step-preserved : goal.loop-step-preserved
loop-step-preserved c =
    let s = c.args.syntax in
    let xs = c.as_slice-step-items.result.now in
    let i = c.loop-step.step-index in
    let rest = drop (i + 1) s.steps in
    elim c.match-step.branch [
      | in-Declare+in_ok-declare-in-Declare w ↦
          let further : (steps : List Step) → kinds_with c.match-step.walk steps ≡ kinds_with c.loop-step.walk (step.Declare w.in-Declare.prefix w.in-Declare.iri ∷ steps) =
          λ steps. ap (λ (v : Walk). kinds_with v steps) w.walk-is ∙ w.in_ok-declare-in-Declare.ensures.kinds steps in
          record {
            found = stepped s xs i c.step-item.result _ c.loop-step.walk c.match-step.walk c.as_slice-step-items.ensures c.loop-step-test.true c.step-item.is w.in-Declare.is further c.loop-step.invariant.found;
            made = made_stepped _ c.loop-step.update c.match-step.update xs s.steps i c.step-item.result _ c.loop-step.walk c.match-step.walk c.as_slice-step-items.ensures c.loop-step-test.true c.step-item.is w.in-Declare.is further
                (λ free. declared_made c.loop-step.update c.match-step.update c.loop-step.walk.prefixes c.match-step.walk.prefixes w.in-Declare.prefix w.in-Declare.iri rest
                (ap (λ (v : Walk). v.prefixes) w.walk-is ∙ w.in_ok-declare-in-Declare.ensures.prefixes) w.update-is)
                c.loop-step.invariant.made;
          }
      | in-Do+in_ok-take_operation-in-Do w ↦
          let further : (steps : List Step) → kinds_with c.match-step.walk steps ≡ kinds_with c.loop-step.walk (step.Do w.in-Do.operation ∷ steps) =
          λ steps. ap (λ (v : Walk). kinds_with v steps) w.walk-is ∙ w.in_ok-take_operation-in-Do.ensures.kinds steps in
          record {
            found = stepped s xs i c.step-item.result _ c.loop-step.walk c.match-step.walk c.as_slice-step-items.ensures c.loop-step-test.true c.step-item.is w.in-Do.is further c.loop-step.invariant.found;
            made = made_stepped _ c.loop-step.update c.match-step.update xs s.steps i c.step-item.result _ c.loop-step.walk c.match-step.walk c.as_slice-step-items.ensures c.loop-step-test.true c.step-item.is w.in-Do.is further
                (λ free. done_made c.loop-step.update c.match-step.update c.loop-step.walk.prefixes c.match-step.walk.prefixes w.in-Do.operation rest
                (ap (λ (v : Walk). v.prefixes) w.walk-is ∙ w.in_ok-take_operation-in-Do.ensures.prefixes)
                (w.update-is ∙ w.in_ok-take_operation-in-Do.ensures.update (λ k. ap (λ (v : Walk). is_among (kinds_with v []) k) (sym w.walk-is) ∙ free k)))
                c.loop-step.invariant.made;
          }
    ]

pub returns-in-Some : goal.returns-in-Some
returns-in-Some c =
    is_refused c.args.syntax c.loop-step.walk c.as_slice-step-items.result.now c.loop-step.step-index c.kinds.result c.first_of.result c.as_slice-step-items.ensures c.loop-step-test.false
    c.loop-step.invariant.found c.kinds.ensures c.first_of.ensures c.in-Some.kind c.in-Some.is

pub returns : goal.returns
returns c =
    is_accepted c.args.syntax c.loop-step.walk c.as_slice-step-items.result.now c.loop-step.step-index c.kinds.result c.first_of.result c.as_slice-step-items.ensures c.loop-step-test.false
    c.loop-step.invariant.found c.kinds.ensures c.first_of.ensures c.loop-step.update c.loop-step.invariant.made c.in-None.is
