use Rattle.nquads.proofs.WholeLaws.{is_spelled, is_only, is_first_bad}
use Rattle.nquads.proofs.reader.read_bytes.Goals as goal

pub returns-clause-spelled : goal.returns-clause-spelled
returns-clause-spelled c = is_spelled c.lines_are_read.ensures c.lists_grow_as_datasets.ensures c.args.bytes.now c.read_lines.result c.read_lines.ensures

pub returns-clause-only : goal.returns-clause-only
returns-clause-only c = is_only c.lines_are_read.ensures c.lists_grow_as_datasets.ensures c.args.bytes.now c.read_lines.result c.read_lines.ensures

pub returns-clause-bad : goal.returns-clause-bad
returns-clause-bad c = is_first_bad c.lines_are_read.ensures c.args.bytes.now c.read_lines.result c.read_lines.ensures
