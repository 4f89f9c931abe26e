use Rattle.std.proofs.Common.{arith, eqb-true, sym, ap, ◌∙◌}
use Rattle.version_overlay.specs.Settled.{changed_by}
use Rattle.version_overlay.proofs.Changing.{changed_by-nothing, below_one}
use Rattle.version_overlay.proofs.settled.Settled.apply.Goals as goal

pub returns-then-is_empty : goal.returns-then-is_empty
returns-then-is_empty c =
    let few = eqb-true _ _ (sym c.is_empty.ensures ∙ c.if-is_empty.true) in
    let none = sym c.self.view_is ∙ below_one c.self.inside.levels.items (omega (arith, few)) in
    sym (ap (λ cs. changed_by cs c.args.view) none ∙ changed_by-nothing c.args.view)
