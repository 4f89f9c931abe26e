use Rattle.std.proofs.Common.{ap, ◌∙◌, is_lt}
use Rattle.quad_sets.proofs.RunLaws.{below_first}
use Rattle.quad_sets.proofs.runs.is_below.Goals as goal

pub returns-in-Some : goal.returns-in-Some
returns-in-Some g c = below_first g.met.T.Ord.total c.is_lt.result c.args.value.now c.in-Some.first.now c.args.set.now c.in-Some.ensures.value c.requires (c.is_lt.ensures ∙ ap is_lt c.cmp.ensures)
