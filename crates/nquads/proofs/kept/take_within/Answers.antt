use Rattle.std.proofs.Common.{◌≡◌, ◌≤◌, ◌<◌, ◌+◌, length, sym, ◌∙◌, arith}
use Rattle.nquads.proofs.KeptLaws.{stops_beyond, all_within}
use Rattle.nquads.proofs.kept.take_within.Goals as goal

pub returns-then-kept-len-clause-err : goal.returns-then-kept-len-clause-err
returns-then-kept-len-clause-err c = λ bytes is.
    let rest : length c.args.kept.now.rest.items ≡ c.len.result = sym c.args.kept.now.rest.ok.0 ∙ sym c.len.ensures in
    let within : c.args.kept.now.len + length c.args.kept.now.rest.items ≤ c.args.limit = c.requires.within in
    let over : c.args.limit < c.args.kept.now.len + c.len.result + length c.args.piece.now = c.if-kept-len.true in
    stops_beyond c.args.limit bytes c.args.piece.now c.args.kept.now c.fault_with.result (omega arith) (omega arith) c.fault_with.ensures is

pub returns-clause-err : goal.returns-clause-err
returns-clause-err c =
    let rest : length c.args.kept.now.rest.items ≡ c.len.result = sym c.args.kept.now.rest.ok.0 ∙ sym c.len.ensures in
    let few : c.args.kept.now.len + c.len.result + length c.args.piece.now ≤ c.args.limit = c.if-kept-len.false in
    all_within c.take_in.result c.args.limit c.args.piece.now c.args.kept.now (omega arith) c.take_in.ensures.err
