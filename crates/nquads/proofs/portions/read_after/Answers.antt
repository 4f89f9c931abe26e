use Rattle.std.proofs.Common.{◌+◌, ◌-◌, ◌≤◌, ◌<◌, ◌^◌, length, Err, refl, subst, arith}
use Rattle.nquads_lines.specs.Lines.{lines}
use Rattle.nquads.specs.Whole.{Reads, read_from, no_quads}
use Rattle.nquads.proofs.WholeLaws.{whole_bad, whole_found}
use Rattle.nquads.proofs.PortionLaws.{bad_within}
use Rattle.nquads.proofs.portions.read_after.Goals as goal

pub overflow_add-result : goal.overflow_add-result
overflow_add-result c =
    let text = c.args.text.now in
    let number : c.in-Err-BadLine.number ≤ length text + 1 =
    bad_within text c.in-Err-BadLine.number (whole_bad c.lines_are_read.ensures text c.in-Err-BadLine.number
    (subst (λ f. Reads (Err f) (read_from no_quads 0 (lines text))) c.in-Err-BadLine.field-0-is c.in-Err-BadLine.ensures.read)) in
    let few : c.args.before + length text < 2 ^ 64 - 1 = c.requires in
    omega arith

pub returns-in-Ok-clause-ok : goal.returns-in-Ok-clause-ok
returns-in-Ok-clause-ok c = record {
  spelled = whole_found c.lines_are_read.ensures c.lists_grow_as_datasets.ensures c.args.text.now c.in-Ok.read.dataset c.in-Ok.ensures.read;
  ends = c.in-Ok.ensures.ends;
}

pub returns-in-Err-BadLine-clause-err : goal.returns-in-Err-BadLine-clause-err
returns-in-Err-BadLine-clause-err c = (
  c.in-Err-BadLine.number,
  refl,
  whole_bad c.lines_are_read.ensures c.args.text.now c.in-Err-BadLine.number
      (subst (λ f. Reads (Err f) (read_from no_quads 0 (lines c.args.text.now))) c.in-Err-BadLine.field-0-is c.in-Err-BadLine.ensures.read),
)
