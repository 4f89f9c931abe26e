use Rattle.std.proofs.Common.{sym, ap, ◌∙◌}
use Rattle.std.specs.List.{list_any}
use Rattle.std.specs.Ordering.{is_lt}
use Rattle.dict.proofs.StepLaws.{rises_throughout}
use Rattle.dict.proofs.ranks.by_terms.Goals as goal

pub returns-clause-sorted : goal.returns-clause-sorted
returns-clause-sorted c =
    rises_throughout c.args.moved.items c.args.steps.items c.requires
    (ap (list_any is_lt) (sym c.as_slice.ensures.value) ∙ sym c.falls.ensures ∙ c.if-falls.false)
