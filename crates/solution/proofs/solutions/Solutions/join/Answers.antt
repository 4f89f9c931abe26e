use Rattle.std.proofs.Common.{ap, sym, ◌∙◌}
use Rattle.sets.specs.Sets.{set_of}
use Rattle.datasets.specs.Id.{id_order}
use Rattle.meaning.specs.Mapping.{mapping_cmp}
use Rattle.meaning.specs.Operators.{join}
use Rattle.solution.proofs.Rising.{set_of_rising}
use Rattle.solution.proofs.Tied.{has_all_is, joins_are}
use Rattle.solution.proofs.solutions.Solutions.join.Goals as goal

pub returns : goal.returns
returns c =
    let right = c.in_ok-right.right in
    let all = has_all_is right.variables.items right.mappings.items right.loose.items _ c.args.right c.right.view_is c.in_ok-right.ensures in
    c.from_mappings.ensures
    ∙ ap (set_of (mapping_cmp id_order)) c.in_ok-found.ensures
    ∙ joins_are right.variables.items right.mappings.items right.loose.items c.args.right all c.args.self.now c.deref-4.result.now (c.deref-4.ensures.value ∙ c.self.view_is)

-- a set that is joined with the empty mapping alone
pub returns-then-is_unit : goal.returns-then-is_unit
returns-then-is_unit c =
    let left = c.deref.ensures.value ∙ c.self.view_is in
    let right = c.deref-2.ensures.value ∙ c.right.view_is in
    let whole = ap (set_of (mapping_cmp id_order)) c.deref-2.ensures.value ∙ set_of_rising c.right.inside.mappings.items c.right.invariant ∙ c.right.view_is in
    sym ((λ i. join id_order (sym left i) (sym right i)) ∙ c.is_unit.ensures c.if-is_unit.true ∙ whole)
