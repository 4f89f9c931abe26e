use Rattle.std.specs.Prelude.{IfOk}
use Rattle.std.proofs.Common.{Result, sym, ap, subst, ◌∙◌}
use Rattle.std.proofs.lemmas.Result.{IfOk-weaker}
use Rattle.datasets.specs.Id.{id_order}
use Rattle.meaning.specs.GraphOperations.{silently}
use Rattle.meaning.specs.declared.reply.Cause.{Cause}
use Rattle.reads.specs.Reads.{Delta, applied}
use Rattle.update.specs.Asked.{IsWithin}
use Rattle.update.specs.Changed.{changed}
use Rattle.update.proofs.operations.heard.Goals as goal

pub returns-in-Ok-clause-effect : goal.returns-in-Ok-clause-effect
returns-in-Ok-clause-effect c d = ap (λ o. silently id_order c.args.silent (applied c.args.changes.now d) (changed d o)) (sym c.in-Ok.is)

pub returns-in-Ok-clause-within : goal.returns-in-Ok-clause-within
returns-in-Ok-clause-within c allowed h k = subst (λ (o : Result Delta Cause). IfOk o (λ change. IsWithin allowed change)) c.in-Ok.is k

pub returns-in-Err-clause-effect : goal.returns-in-Err-clause-effect
returns-in-Err-clause-effect c =
    IfOk-weaker c.excused.result _ _ (λ kept h d. h d ∙ ap (λ o. silently id_order c.args.silent (applied c.args.changes.now d) (changed d o)) (sym c.in-Err.is)) c.excused.ensures.effect

pub returns-in-Err-clause-within : goal.returns-in-Err-clause-within
returns-in-Err-clause-within c allowed h k = c.excused.ensures.within allowed h
