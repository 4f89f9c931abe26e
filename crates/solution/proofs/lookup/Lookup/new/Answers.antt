use Rattle.std.specs.Prelude.{filter}
use Rattle.std.specs.List.{list_any}
use Rattle.std.proofs.Common.{ap, ◌∙◌}
use Rattle.solution.specs.Lookups.{binds}
use Rattle.solution.proofs.Tied.{has_all}
use Rattle.solution.proofs.lookup.Lookup.new.Goals as goal

pub returns : goal.returns
returns c =
    has_all c.in_ok-variables.variables.items c.in_ok-mappings.mappings.items c.in_ok-bound.loose.items c.args.right.items
    (λ q. c.in_ok-mappings.ensures.members q ∙ ap (list_any q) (rw c.deref-2.ensures.value at c.in_ok-bound.ensures.bound))
    (rw c.deref-2.ensures.value at c.in_ok-bound.ensures.loose)
