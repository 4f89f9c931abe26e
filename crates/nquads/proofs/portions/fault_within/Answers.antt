use Rattle.std.proofs.Common.{◌+◌, ◌-◌, ◌≤◌, ◌<◌, ◌^◌, List, length, refl, sym, subst, arith}
use Rattle.nquads.proofs.PortionLaws.{within_bad, within_good, few_within, nothing_ends}
use Rattle.nquads_lines.specs.declared.stop.Line.{Line}
use Rattle.nquads.specs.Long.{ended_lines}
use Rattle.nquads.specs.Spelled.{AreLines}
use Rattle.nquads.proofs.portions.fault_within.Goals as goal

pub overflow_add-result : goal.overflow_add-result
overflow_add-result c =
    let text = c.args.text.now in
    let number : c.in-Err-BadLine.number ≤ length text + 1 =
    few_within c.args.limit text c.in-Err-BadLine.number
    (within_bad c.lines_are_read.ensures c.args.limit text c.ended_front.result.now c.in-Err-BadLine.field-0 c.in-Err-BadLine.number c.ended_front.ensures c.in-Err-BadLine.field-0-is c.in-Err-BadLine.ensures) in
    let few : c.args.before + length text < 2 ^ 64 - 1 = c.requires.few in
    omega arith

pub returns-in-Ok : goal.returns-in-Ok
returns-in-Ok c = within_good c.lines_are_read.ensures c.args.limit c.args.text.now c.ended_front.result.now c.ended_front.ensures c.in-Ok.ensures

pub returns-in-Err-BadLine : goal.returns-in-Err-BadLine
returns-in-Err-BadLine c = (
  c.in-Err-BadLine.number,
  refl,
  within_bad c.lines_are_read.ensures c.args.limit c.args.text.now c.ended_front.result.now c.in-Err-BadLine.field-0 c.in-Err-BadLine.number c.ended_front.ensures c.in-Err-BadLine.field-0-is c.in-Err-BadLine.ensures,
)

pub returns-then-limit-eq0 : goal.returns-then-limit-eq0
returns-then-limit-eq0 c = subst (λ n. (said : List Line) × AreLines (ended_lines n c.args.text.now) said) (sym c.if-limit-eq0.true) (nothing_ends c.args.text.now)
