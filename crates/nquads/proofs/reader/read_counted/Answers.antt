use Rattle.std.proofs.Common.{◌≡◌, ◌+◌, ◌≤◌, ◌∷◌, length, sym, ap, ◌∙◌, subst, Err, arith}
use Rattle.std.proofs.lemmas.Result.{err_from_is_err_and}
use Rattle.nquads_lines.specs.Lines.{lines}
use Rattle.nquads_lines.specs.Cut.{later_lines}
use Rattle.nquads.specs.Whole.{read_from, Reads}
use Rattle.nquads.proofs.WholeLaws.{stopped}
use Rattle.nquads.proofs.PortionLaws.{some_line}
use Rattle.nquads.proofs.reader.read_counted.Goals as goal

pub returns-in_err-read_line : goal.returns-in_err-read_line
returns-in_err-read_line c =
    let p = err_from_is_err_and c.from_residual.result c.from_residual.ensures.1 in
    let cut : later_lines c.loop-rest.rest ≡ c.first_line.result.0.now ∷ later_lines c.first_line.result.1 = cc (c.first_line.ensures.cut, ap later_lines c.in-Some.is) in
    rw (p.1, p.2)
    (record {
      read = subst (λ read. Reads (Err c.in_err-read_line.field-0.0) read) (ap (read_from c.loop-rest.dataset c.loop-rest.number) (sym cut) ∙ c.loop-rest.invariant.read)
          (stopped c.in_err-read_line.field-0.0 c.first_line.result.0.now (later_lines c.first_line.result.1) c.loop-rest.dataset c.loop-rest.number c.in_err-read_line.ensures.bad);
      ends = tt;
    })

pub overflow_sub-result : goal.overflow_sub-result
overflow_sub-result c =
    let all : c.loop-rest.number + length (later_lines c.loop-rest.rest) ≡ length (lines c.args.bytes.now) = c.loop-rest.invariant.count in
    let none : length (later_lines c.loop-rest.rest) ≡ 0 = ap (λ r. length (later_lines r)) c.in_default.is in
    let some : 1 ≤ length (lines c.args.bytes.now) = some_line c.args.bytes.now in
    omega arith

pub returns-clause-ends : goal.returns-clause-ends
returns-clause-ends c =
    let all : c.loop-rest.number + length (later_lines c.loop-rest.rest) ≡ length (lines c.args.bytes.now) = c.loop-rest.invariant.count in
    let none : length (later_lines c.loop-rest.rest) ≡ 0 = ap (λ r. length (later_lines r)) c.in_default.is in
    let some : 1 ≤ length (lines c.args.bytes.now) = some_line c.args.bytes.now in
    omega arith
