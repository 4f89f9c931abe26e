use Rattle.book.proofs.Replay.{replayed_none, run_none}
use Rattle.book.proofs.book.Book.new.Goals as goal

pub invariant_of-result : goal.invariant_of-result
invariant_of-result c = replayed_none c.args.terms.now c.args.base.now c.args.block.now c.new-2.result.entries c.in_ok-machine.machine c.len-count.ensures.form c.requires c.new-2.ensures c.in_ok-machine.ensures

pub returns : goal.returns
returns c = run_none c.args.terms.now c.args.base.now c.args.block.now c.new-2.result.entries c.new-2.ensures
