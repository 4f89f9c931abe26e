use Rattle.std.proofs.Common.{[], ◌++◌, ◌∙◌, arith, ap, sym, append-nil}
use Rattle.std.proofs.lemmas.Result.{err_from_is_err_and}
use Rattle.shared.specs.InTurn.{checking, committing}
use Rattle.shared.specs.declared.kept.Kept.{Kept}
use Rattle.shared.proofs.InTurn.{adds, in_turn_refused}
use Rattle.shared.proofs.shared_block.SharedBlock.settle.Goals as goal

pub returns-in_err-reserve : goal.returns-in_err-reserve
returns-in_err-reserve g c =
    let told = err_from_is_err_and c.from_residual.result c.from_residual.ensures.1 in
    record {
      replies = [];
      added = c.in_err-reserve.ensures.items ∙ sym (append-nil c.args.replies.now.items);
      in_turn = in_turn_refused c.args.pass.now (checking c.args.i c.args.n c.args.notes ++ committing c.args.i c.args.until) c.from_residual.result told.0 (omega arith) told.1;
    }

pub returns : goal.returns
returns g c =
    adds c.args.pass.now c.hold-held.new.pass c.give.new.pass c.hold-held.result.book.value.book c.deref_mut.result.now.book c.deref.result.now.book c.make_settling-made.new.book _ _ _ _ _
    c.hold-held.ensures.1 (omega arith) (ap (λ (k : Kept). k.book) c.deref_mut.ensures.value) (ap (λ (k : Kept). k.book) c.deref.ensures) c.in_ok-reserve.ensures.items c.journal-before.ensures.lawful
    c.make_settling-made.ensures c.give.ensures
