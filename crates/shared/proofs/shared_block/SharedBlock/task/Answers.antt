use Rattle.shared.proofs.Made.{watches_given}
use Rattle.shared.proofs.shared_block.SharedBlock.task.Goals as goal

pub returns-clause-pass : goal.returns-clause-pass
returns-clause-pass g c =
    watches_given c.args.pass.now c.hold-taken.new.pass c.hold-taken.result.book.value.book c.hold-taken.ensures.1 c.give.new.pass c.give.ensures
