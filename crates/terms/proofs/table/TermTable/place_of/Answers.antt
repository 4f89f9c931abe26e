use Rattle.std.proofs.Common.{sym, ap, ◌∙◌}
use Rattle.terms.specs.Table.{listed}
use Rattle.terms.proofs.PlacedLaws.{stays}
use Rattle.terms.proofs.table.TermTable.place_of.Goals as goal

pub returns-in_err-place-in-Listed-clause-kept : goal.returns-in_err-place-in-Listed-clause-kept
returns-in_err-place-in-Listed-clause-kept c = stays c.args.self.now c.in-Listed.list.items (sym (ap listed c.in-Listed.is) ∙ c.self.view_is)
