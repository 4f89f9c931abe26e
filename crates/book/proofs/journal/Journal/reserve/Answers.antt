use Rattle.std.proofs.Common.{◌∙◌, ◌++◌, [], ◌∷◌, ap, length, arith}
use Rattle.std.proofs.lemmas.Result.{on_ok_weaker}
use Rattle.book.proofs.Blocks.{length_in_blocks, length_after}
use Rattle.book.proofs.journal.Journal.reserve.Goals as goal

pub returns-then-len-lt-BLOCK-clause-few : goal.returns-then-len-lt-BLOCK-clause-few
returns-then-len-lt-BLOCK-clause-few c =
    let long = length_in_blocks (λ block. block.items) 4096 c.self.inside.full.items c.reserve_exact.new.self.items c.self.invariant.full in
    let same = ap length c.reserve_exact.ensures.items in
    on_ok_weaker c.reserve_exact.result (λ _. omega (arith, long, same, c.self.invariant.last, c.self.invariant.few)) c.reserve_exact.ensures.ok

pub returns-clause-few : goal.returns-clause-few
returns-clause-few c =
    let j = c.self.inside in
    let more = c.in-Ok.ensures.items ∙ (λ t. c.in_ok-reserve.ensures.items t ++ c.replace.ensures.value t ∷ []) in
    let none = ap (λ block. block.items) c.replace.ensures.after ∙ c.in_ok-next.ensures.items in
    let long = length_after (λ block. block.items) 4096 j.full.items j.last c.push.new.self.items c.replace.new.dest.items c.self.invariant.full c.self.invariant.last more none in
    omega (arith, long, c.self.invariant.few)
