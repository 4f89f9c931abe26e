use Rattle.std.specs.Prelude.{if◌then◌else◌}
use Rattle.std.proofs.Common.{Ok, Err, sym, ap, subst, ◌∙◌}
use Rattle.reads.specs.Reads.{Delta, applied}
use Rattle.update.specs.Asked.{IsWithin}
use Rattle.update.proofs.operations.excused.Goals as goal

pub returns-then-not-silent-clause-effect : goal.returns-then-not-silent-clause-effect
returns-then-not-silent-clause-effect c d = ap (λ b. if b then Ok (applied c.args.changes.now d) else Err c.args.cause) (sym c.if-not-silent.true)

pub returns-clause-effect : goal.returns-clause-effect
returns-clause-effect c d =
    ap (λ (z : Delta). Ok (applied z d)) c.in_ok-unchanged.ensures ∙ ap (λ b. if b then Ok (applied c.args.changes.now d) else Err c.args.cause) (sym c.if-not-silent.false)

pub returns-clause-within : goal.returns-clause-within
returns-clause-within c allowed h = subst (IsWithin allowed) (sym c.in_ok-unchanged.ensures) h
