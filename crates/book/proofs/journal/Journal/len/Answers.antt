use Rattle.std.proofs.Common.{ap, length, arith}
use Rattle.book.proofs.Blocks.{length_in_blocks}
use Rattle.book.proofs.journal.Journal.len.Goals as goal

pub returns-clause-len : goal.returns-clause-len
returns-clause-len c =
    let j = c.self.inside in
    let long = length_in_blocks (λ block. block.items) 4096 j.full.items j.last.items c.self.invariant.full in
    let same = ap (λ entries. length entries.entries) c.self.view_is in
    omega (arith, c.len.ensures, c.len-2.ensures, j.full.ok.0, j.last.ok.0, long, same)

pub returns-clause-few : goal.returns-clause-few
returns-clause-few c =
    let j = c.self.inside in
    omega (arith, c.len.ensures, c.len-2.ensures, j.full.ok.0, j.last.ok.0, c.self.invariant.few, c.self.invariant.last)
