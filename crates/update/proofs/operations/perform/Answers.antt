use Rattle.std.specs.Prelude.{Bool, IfOk}
use Rattle.std.proofs.Common.{◌≡◌, ◌+◌, refl, sym, ap, ◌∙◌, subst, Result, Ok}
use Rattle.datasets.specs.Id.{id_order}
use Rattle.dict.specs.Dictionary.{numbers}
use Rattle.asking.specs.Near.{is_near, is_near_request}
use Rattle.meaning.specs.Run.{performed}
use Rattle.meaning.specs.declared.reply.Cause.{Cause}
use Rattle.reads.specs.Reads.{Delta, Read, applied}
use Rattle.update.specs.Asked.{IsWithin}
use Rattle.update.specs.Changed.{changed}
use Rattle.update.specs.Known.{or_told}
use Rattle.update.proofs.Differences.{no_change_keeps}
use Rattle.update.proofs.Effects.{performed_more, performed_fails}
use Rattle.update.proofs.Nearness.{request_near, no_change_within}
use Rattle.update.proofs.ToldReads.{or_told_at, within_on}
use Rattle.asking.proofs.Notes.{goes_on, goes_within, goes_nowhere, goes_as, agreed}
use Rattle.update.proofs.operations.perform.Goals as goal

-- where an operation is done, its change is within
within_of : (allowed : Read → Bool) (outcome : Result Delta Cause) (next : Delta) → outcome ≡ Ok next → IfOk outcome (λ change. IsWithin allowed change) → IsWithin allowed next
within_of allowed outcome next e h = subst (λ (o : Result Delta Cause). IfOk o (λ change. IsWithin allowed change)) e h

pub loop-operation-init : goal.loop-operation-init
loop-operation-init g c =
    let V = numbers c.args.dict.now in
    let ops = c.args.operations.now in
    record {
      counted = refl;
      short = c.requires;
      goes = goes_nowhere (is_near_request id_order ops) c.args.source.now c.args.notes.now.items;
      effect = λ d h a. ap (λ (z : Delta). performed V c.args.place 0 ops (applied z d)) c.new-changes.ensures ∙ ap (performed V c.args.place 0 ops) (no_change_keeps d h);
      within = subst (IsWithin (or_told (is_near_request id_order ops) c.args.notes.now.items)) (sym c.new-changes.ensures) (no_change_within (or_told (is_near_request id_order ops) c.args.notes.now.items));
    }

pub returns-in_err-next-clause-goes : goal.returns-in_err-next-clause-goes
returns-in_err-next-clause-goes g c =
    goes_as _ c.from_residual.ensures.1 (goes_on c.loop-operation.invariant.goes (goes_within (request_near c.args.operations.now c.loop-operation.operation-index c.operation-item.result c.loop-operation-test.true c.operation-item.is) c.in_err-next.ensures.goes))

pub returns-in-Err-clause-goes : goal.returns-in-Err-clause-goes
returns-in-Err-clause-goes g c =
    goes_on c.loop-operation.invariant.goes (goes_within (request_near c.args.operations.now c.loop-operation.operation-index c.operation-item.result c.loop-operation-test.true c.operation-item.is) c.in_ok-next.ensures.goes)

pub loop-operation-preserved : goal.loop-operation-preserved
loop-operation-preserved g c = record {
  counted = ap (λ n. n + 1) c.loop-operation.invariant.counted;
  short = c.loop-operation.invariant.short;
  goes = goes_on c.loop-operation.invariant.goes (goes_within (request_near c.args.operations.now c.loop-operation.operation-index c.operation-item.result c.loop-operation-test.true c.operation-item.is) c.in_ok-next.ensures.goes);
  effect = λ d h a.
      performed_more (numbers c.args.dict.now) c.args.place c.args.operations.now c.loop-operation.operation-index c.loop-operation.op c.operation-item.result (applied c.loop-operation.changes d) (applied c.in-Ok.next d) _
      c.loop-operation-test.true c.operation-item.is (sym (ap (changed d) c.in-Ok.is) ∙ c.in_ok-next.ensures.effect d a) (c.loop-operation.invariant.effect d h (agreed c.in_ok-next.ensures.goes d a));
  within =
      let near = is_near_request id_order c.args.operations.now in
      let asked = or_told near c.perform_one.new.notes.items in
      within_of asked c.in_ok-next.field-0 c.in-Ok.next c.in-Ok.is
      (c.in_ok-next.ensures.within asked (or_told_at (is_near id_order c.operation-item.result) near (request_near c.args.operations.now c.loop-operation.operation-index c.operation-item.result c.loop-operation-test.true c.operation-item.is) c.perform_one.new.notes.items)
      (within_on c.in_ok-next.ensures.goes near c.loop-operation.changes c.loop-operation.invariant.within));
}

pub returns-in-Err-clause-effect : goal.returns-in-Err-clause-effect
returns-in-Err-clause-effect g c d h a =
    performed_fails (numbers c.args.dict.now) c.args.place c.args.operations.now c.loop-operation.operation-index c.loop-operation.op c.operation-item.result (applied c.loop-operation.changes d) c.in-Err.cause _
    c.loop-operation-test.true c.operation-item.is (sym (ap (changed d) c.in-Err.is) ∙ c.in_ok-next.ensures.effect d a) (c.loop-operation.invariant.effect d h (agreed c.in_ok-next.ensures.goes d a))
