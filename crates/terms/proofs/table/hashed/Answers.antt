use Rattle.terms.proofs.TableLaws.{next_is_put}
use Rattle.terms.proofs.table.hashed.Goals as goal

pub loop-term-preserved : goal.loop-term-preserved
loop-term-preserved c =
    next_is_put c.args.terms.now c.loop-term.term-index c.term-item.result c.requires c.loop-term-test.true c.term-item.is
    c.in_ok-copied.field-0 c.loop-term.set.keys c.insert.new.self.keys c.in_ok-copied.ensures c.loop-term.invariant c.in_ok-insert.ensures.keys
