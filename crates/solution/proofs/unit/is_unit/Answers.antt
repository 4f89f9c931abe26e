use Rattle.std.proofs.Common.{◌∙◌, sym, ap}
use Rattle.std.specs.Prelude.{nat_le, length}
use Rattle.std.specs.List.{list_all}
use Rattle.solution.proofs.EmptyJoin.{unit_join}
use Rattle.solution.proofs.unit.is_unit.Goals as goal

pub returns-then-binds_none : goal.returns-then-binds_none
returns-then-binds_none c e =
    unit_join c.args.left.now c.only-item.result c.args.right.now c.in-len1.len_at_least c.in-len1.len_below c.only-item.is (sym c.binds_none.ensures ∙ c.if-binds_none.true)
    (ap (λ n. list_all (λ b. nat_le (length b) n) c.args.right.now) (sym c.width.ensures) ∙ sym c.are_within.ensures ∙ e)
