use Rattle.shared.proofs.Passes.{all_below}
use Rattle.shared.proofs.shared_block.SharedBlock.close.Goals as goal

pub returns-clause-workers : goal.returns-clause-workers
returns-clause-workers g c = all_below c.args.self c.self.inside.lock c.close-book.result.book.history c.self.view_is c.self.invariant c.close-book.ensures.workers
