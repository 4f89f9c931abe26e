use Rattle.std.proofs.Common.{arith}
use Rattle.nquads.proofs.LongLaws.{short_answer, too_long, long_answer}
use Rattle.nquads.proofs.base.answer.Goals as goal

pub returns-then-bytes-limit-clause-answer : goal.returns-then-bytes-limit-clause-answer
returns-then-bytes-limit-clause-answer c = short_answer c.lines_are_read.ensures c.lists_grow_as_datasets.ensures c.args.limit c.args.bytes.now c.read_lines.result c.read_lines.ensures (omega arith)

pub returns-in-Ok-clause-answer : goal.returns-in-Ok-clause-answer
returns-in-Ok-clause-answer c = too_long c.lines_are_read.ensures c.args.limit c.args.bytes.now c.ended_front.result.now (omega arith) c.ended_front.ensures c.in-Ok.ensures

pub returns-in-Err-clause-answer : goal.returns-in-Err-clause-answer
returns-in-Err-clause-answer c = long_answer c.lines_are_read.ensures c.args.limit c.args.bytes.now c.ended_front.result.now c.in-Err.fault (omega arith) c.ended_front.ensures c.in-Err.ensures
