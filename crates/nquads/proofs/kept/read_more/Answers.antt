use Rattle.std.proofs.Common.{◌+◌, ◌≤◌, ◌<◌, ◌-◌, ◌^◌, length, refl, arith}
use Rattle.nquads.proofs.PortionLaws.{few_ends}
use Rattle.nquads.proofs.KeptLaws.{line_more, line_bad}
use Rattle.nquads.proofs.kept.read_more.Goals as goal

pub returns-in-Some-clause-ok : goal.returns-in-Some-clause-ok
returns-in-Some-clause-ok c = λ front is.
    line_more c.lines_are_read.ensures c.lists_grow_as_datasets.ensures c.lists_unite.ensures c.args.text.now c.in-Some.line.now front c.args.read.now _ c.in-Some.ensures.lines c.in-Ok.ensures.ok refl is

pub returns-in-Err-clause-err : goal.returns-in-Err-clause-err
returns-in-Err-clause-err c =
    line_bad c.lines_are_read.ensures c.lists_grow_as_datasets.ensures c.lists_unite.ensures c.args.text.now c.in-Some.line.now c.args.read.now.ends c.in-Err.fault c.in-Some.ensures.lines c.in-Err.ensures.bad

pub overflow_add-read-2 : goal.overflow_add-read-2
overflow_add-read-2 c =
    let more : c.in-Ok-read_after.more.ends ≤ length c.args.text.now = few_ends c.args.text.now c.in-Ok-read_after.more c.in-Ok-read_after.ensures.ok in
    let few : c.args.read.now.ends + length c.args.text.now < 2 ^ 64 - 1 = c.requires in
    omega arith

pub returns-clause-ends : goal.returns-clause-ends
returns-clause-ends c =
    let more : c.in-Ok-read_after.more.ends ≤ length c.args.text.now = few_ends c.args.text.now c.in-Ok-read_after.more c.in-Ok-read_after.ensures.ok in
    omega arith
