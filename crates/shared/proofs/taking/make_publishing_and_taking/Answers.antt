use Rattle.std.proofs.Common.{ℕ, subst}
use Rattle.std.proofs.lemmas.Result.{err_from_is_err_and}
use Rattle.blocklock.specs.History.{GoesOn}
use Rattle.shared.specs.Calls.{owner}
use Rattle.shared.specs.InTurn.{publishing}
use Rattle.shared.proofs.InTurn.{goes_on_more}
use Rattle.shared.proofs.Took.{took_while, took_all, took_short, took_not}
use Rattle.shared.proofs.taking.make_publishing_and_taking.Goals as goal

pub returns-in_err-whole-clause-took : goal.returns-in_err-whole-clause-took
returns-in_err-whole-clause-took c =
    let told = err_from_is_err_and c.from_residual.result c.from_residual.ensures.1 in
    took_not c.args.pass.now c.args.book.now c.make_publishing.new.book c.make_publishing.new.book (publishing c.args.i c.args.n c.args.finished c.args.notes c.args.until) c.args.replies.now.items
    c.make_publishing.new.replies.items c.args.most c.make_publishing.result c.from_residual.result _ told.0 c.in_err-whole.was told.1 c.make_publishing.ensures

pub returns-in_err-next-clause-goes_on : goal.returns-in_err-next-clause-goes_on
returns-in_err-next-clause-goes_on c =
    goes_on_more c.args.pass.now.worker _ _ _ c.make_publishing.ensures.goes_on
    (subst (λ (w : ℕ). GoesOn owner w c.make_publishing.new.book.history c.make_taking.new.book.history) c.worker.ensures c.make_taking.ensures.goes_on)

pub returns-in_err-next-clause-took : goal.returns-in_err-next-clause-took
returns-in_err-next-clause-took c =
    let told = err_from_is_err_and c.from_residual-in_err-next.result c.from_residual-in_err-next.ensures.1 in
    let took = took_while c.args.pass.now c.make_publishing.new.book c.make_taking.new.book c.worker.result c.args.most c.make_taking.result c.make_publishing.ensures.subject c.worker.ensures
    c.journal-between.ensures.lawful c.make_taking.ensures.next c.make_taking.ensures.none c.make_taking.ensures.some c.make_taking.ensures.err in
    took_short c.args.pass.now c.args.book.now c.make_publishing.new.book c.make_taking.new.book (publishing c.args.i c.args.n c.args.finished c.args.notes c.args.until) c.args.replies.now.items
    c.make_publishing.new.replies.items c.args.most c.make_publishing.result _ c.make_taking.result c.from_residual-in_err-next.result _ told.0 c.in_ok-whole.was c.in_err-next.was told.1 c.make_publishing.ensures took

pub returns-clause-goes_on : goal.returns-clause-goes_on
returns-clause-goes_on c =
    goes_on_more c.args.pass.now.worker _ _ _ c.make_publishing.ensures.goes_on
    (subst (λ (w : ℕ). GoesOn owner w c.make_publishing.new.book.history c.make_taking.new.book.history) c.worker.ensures c.make_taking.ensures.goes_on)

pub returns-clause-took : goal.returns-clause-took
returns-clause-took c =
    let took = took_while c.args.pass.now c.make_publishing.new.book c.make_taking.new.book c.worker.result c.args.most c.make_taking.result c.make_publishing.ensures.subject c.worker.ensures
    c.journal-between.ensures.lawful c.make_taking.ensures.next c.make_taking.ensures.none c.make_taking.ensures.some c.make_taking.ensures.err in
    took_all c.args.pass.now c.args.book.now c.make_publishing.new.book c.make_taking.new.book (publishing c.args.i c.args.n c.args.finished c.args.notes c.args.until) c.args.replies.now.items
    c.make_publishing.new.replies.items c.args.most c.make_publishing.result _ c.make_taking.result _ c.in_ok-whole.was c.in_ok-next.was c.make_publishing.ensures took
