use Rattle.std.specs.Prelude.{Bool, IfOk, length}
use Rattle.std.proofs.Common.{◌≡◌, sym, ap, ◌∙◌, subst, Result, Ok}
use Rattle.datasets.specs.Id.{id_order}
use Rattle.dict.specs.Dictionary.{numbers}
use Rattle.asking.specs.Near.{is_near_request}
use Rattle.meaning.specs.Run.{settled}
use Rattle.meaning.specs.declared.reply.Reply.TheVariants.{Done}
use Rattle.reads.specs.Reads.{Delta, Read}
use Rattle.update.specs.Asked.{IsWithin}
use Rattle.update.specs.Changed.{difference}
use Rattle.update.specs.Known.{or_told}
use Rattle.update.specs.Failures.{performed_so}
use Rattle.update.specs.declared.operations.Failed.{Failed}
use Rattle.update.proofs.Differences.{no_difference}
use Rattle.asking.proofs.Notes.{goes_on, goes_as, agreed}
use Rattle.update.proofs.execution.performed.Goals as goal

-- where all operations are done, the change is within
within_of : (allowed : Read → Bool) (outcome : Result Delta Failed) (changes : Delta) → outcome ≡ Ok changes → IfOk outcome (λ change. IsWithin allowed change) → IsWithin allowed changes
within_of allowed outcome changes e h = subst (λ (o : Result Delta Failed). IfOk o (λ change. IsWithin allowed change)) e h

pub returns-in_err-delta-in-Ok-clause-goes : goal.returns-in_err-delta-in-Ok-clause-goes
returns-in_err-delta-in-Ok-clause-goes g c =
    let near = is_near_request id_order c.args.operations.now in
    goes_as _ c.from_residual-in_err-delta-in-Ok.ensures.1 (goes_on c.in_ok-changes.ensures.goes (c.in_err-delta-in-Ok.ensures.goes near (within_of (or_told near c.perform.new.notes.items) c.in_ok-changes.field-0 c.in-Ok.changes c.in-Ok.is c.in_ok-changes.ensures.within)))

pub returns-in_ok-delta-in-Ok-clause-goes : goal.returns-in_ok-delta-in-Ok-clause-goes
returns-in_ok-delta-in-Ok-clause-goes g c =
    let near = is_near_request id_order c.args.operations.now in
    goes_on c.in_ok-changes.ensures.goes (c.in_ok-delta-in-Ok.ensures.goes near (within_of (or_told near c.perform.new.notes.items) c.in_ok-changes.field-0 c.in-Ok.changes c.in-Ok.is c.in_ok-changes.ensures.within))

pub returns-in_ok-delta-in-Ok-clause-least : goal.returns-in_ok-delta-in-Ok-clause-least
returns-in_ok-delta-in-Ok-clause-least g c d h a =
    let V = numbers c.args.dict.now in
    let near = is_near_request id_order c.args.operations.now in
    let before = agreed (c.in_ok-delta-in-Ok.ensures.goes near (within_of (or_told near c.perform.new.notes.items) c.in_ok-changes.field-0 c.in-Ok.changes c.in-Ok.is c.in_ok-changes.ensures.within)) d a in
    let done = sym (ap (performed_so d) c.in-Ok.is) ∙ c.in_ok-changes.ensures.effect d h before in
    c.in_ok-delta-in-Ok.ensures.least d h a ∙ ap (λ z. difference d (settled V d z).0) done

pub returns-in_ok-delta-in-Ok-clause-reply : goal.returns-in_ok-delta-in-Ok-clause-reply
returns-in_ok-delta-in-Ok-clause-reply g c d h a =
    let V = numbers c.args.dict.now in
    let near = is_near_request id_order c.args.operations.now in
    let before = agreed (c.in_ok-delta-in-Ok.ensures.goes near (within_of (or_told near c.perform.new.notes.items) c.in_ok-changes.field-0 c.in-Ok.changes c.in-Ok.is c.in_ok-changes.ensures.within)) d a in
    let done = sym (ap (performed_so d) c.in-Ok.is) ∙ c.in_ok-changes.ensures.effect d h before in
    let least = c.in_ok-delta-in-Ok.ensures.least d h a in
    (λ i. Done (c.len.ensures i) (c.len-in-Ok.ensures i))
    ∙ (λ i. Done (length ((c.present.ensures.value ∙ ap (λ (z : Delta). z.present) least) i)) (length ((c.absent.ensures.value ∙ ap (λ (z : Delta). z.absent) least) i)))
    ∙ ap (λ z. (settled V d z).1) done

pub returns-in-Err-clause-least : goal.returns-in-Err-clause-least
returns-in-Err-clause-least g c d h a =
    let V = numbers c.args.dict.now in
    let failed = sym (ap (performed_so d) c.in-Err.is) ∙ c.in_ok-changes.ensures.effect d h a in
    c.new.ensures ∙ no_difference d h ∙ ap (λ z. difference d (settled V d z).0) failed
