use Rattle.std.proofs.Common.{arith, Ok, false, ◌+◌}
use Rattle.std.proofs.lemmas.Result.{err_from_is_err_and}
use Rattle.shared.specs.InTurn.{reading}
use Rattle.shared.proofs.InTurn.{went_as, went_told, went_stop, went_next, read_below, read_at, one_scan}
use Rattle.shared.proofs.in_turn.make_reads.Goals as goal

pub make_next-requires-clause-scans : goal.make_next-requires-clause-scans
make_next-requires-clause-scans c = one_scan c.args.reads.now c.loop-k.k (omega arith) c.args.pass.now.subject.base c.args.scans.now _ c.requires.scans

pub returns-in_err-make_next : goal.returns-in_err-make_next
returns-in_err-make_next c =
    let is = c.in_err-make_next.was in
    let told = err_from_is_err_and c.from_residual.result c.from_residual.ensures.1 in
    went_as _ _ _ _ _ _ c.make_next.result c.from_residual.result _ told.0 is told.1
    (went_stop _ _ _ _ (reading c.args.i c.args.n c.args.reads.now) (c.loop-k.k) _ _ _ _ (read_below c.args.reads.now c.loop-k.k (omega arith) c.args.i c.args.n) (read_at c.args.reads.now c.loop-k.k (omega arith) c.args.i c.args.n _ _) c.loop-k.invariant c.make_next.result (λ t. cc) c.make_next.ensures)

pub returns-then-not-branch : goal.returns-then-not-branch
returns-then-not-branch c =
    went_stop _ _ _ _ (reading c.args.i c.args.n c.args.reads.now) (c.loop-k.k) _ _ _ _ (read_below c.args.reads.now c.loop-k.k (omega arith) c.args.i c.args.n) (read_at c.args.reads.now c.loop-k.k (omega arith) c.args.i c.args.n _ _) c.loop-k.invariant (Ok false) (λ t. cc)
    (went_told _ _ _ _ _ _ c.make_next.result _ _ c.in_ok-make_next.was c.if-not-branch.true c.make_next.ensures)

pub loop-k-preserved : goal.loop-k-preserved
loop-k-preserved c =
    went_next _ _ _ _ (reading c.args.i c.args.n c.args.reads.now) (c.loop-k.k) _ _ _ _ (read_below c.args.reads.now c.loop-k.k (omega arith) c.args.i c.args.n) (read_at c.args.reads.now c.loop-k.k (omega arith) c.args.i c.args.n _ _) c.loop-k.invariant (c.loop-k.k + 1) (omega arith)
    (went_told _ _ _ _ _ _ c.make_next.result _ _ c.in_ok-make_next.was c.if-not-branch.false c.make_next.ensures)
