use Rattle.std.proofs.Common.{◌≡◌, ◌+◌, ◌≤◌, length, sym, ◌∙◌, subst, Err, arith}
use Rattle.nquads.specs.Long.{IsAnswer}
use Rattle.nquads.specs.Portions.{IsPartlyRead}
use Rattle.nquads.proofs.PortionLaws.{if_known}
use Rattle.nquads.proofs.portions.read_lines_of.Goals as goal

pub returns-in-Err-clause-err : goal.returns-in-Err-clause-err
returns-in-Err-clause-err g c =
    let many : length c.loop-read.read.rest.items ≡ c.len.result = sym c.loop-read.read.rest.ok.0 ∙ sym c.len.ensures in
    let few : c.loop-read.read.len + c.len.result ≤ c.args.limit = c.if-read-len.true in
    let within : c.loop-read.read.len + length c.loop-read.read.rest.items ≤ c.args.limit = omega arith in
    if_known (g.R.Read.remaining c.args.reader.now.inner) (λ text. IsAnswer c.args.limit text (Err c.in-Err.fault)) (λ text e.
    c.in-Err.ensures.err c.args.limit text (subst (λ o. IsPartlyRead o (g.R.Read.remaining c.loop-read.reader.inner) c.loop-read.read) e c.loop-read.invariant.read) within)
