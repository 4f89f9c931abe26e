use Rattle.std.specs.Prelude.{map, filter, filter_map, IfOk}
use Rattle.std.proofs.Common.{◌≡◌, Bool, List, ap, sym, ◌∙◌, subst}
use Rattle.algebra.specs.Expressions.{expression_of}
use Rattle.datasets.specs.declared.id.Id.{Id}
use Rattle.datasets.specs.Id.{id_order}
use Rattle.meaning.specs.Mapping.{Mapping, mapping_cmp, joined}
use Rattle.meaning.specs.Operators.{join}
use Rattle.meaning.specs.Solutions.{passes_all}
use Rattle.solution.specs.Limits.{up_to}
use Rattle.solution.specs.Lookups.{near}
use Rattle.sets.specs.Sets.{set_of}
use Rattle.solution.proofs.Rising.{set_of_rising}
use Rattle.solution.proofs.Sizes.{merges_are}
use Rattle.solution.proofs.Tied.{has_all_is, joins_are}
use Rattle.solution.proofs.solutions.Solutions.join_up_to.Goals as goal

pub returns : goal.returns
returns g c =
    let xs = c.args.self.now in
    let ys = c.args.right in
    let right = c.in_ok-right.right in
    let test : Mapping Id → Bool = passes_all (g.F.Filters.passes c.args.by.now) (map expression_of c.args.filters.now) in
    let all = has_all_is right.variables.items right.mappings.items right.loose.items _ ys c.right.view_is c.in_ok-right.ensures in
    let is = merges_are test (λ a. filter_map (joined id_order a) (near right.variables.items right.mappings.items right.loose.items a)) c.deref-4.result.now _ (joins_are right.variables.items right.mappings.items right.loose.items ys all xs c.deref-4.result.now (c.deref-4.ensures.value ∙ c.self.view_is)) in
    subst (λ (zs : List (Mapping Id)). IfOk c.joins_up_to.result (λ x. x ≡ up_to c.args.limit zs)) is c.joins_up_to.ensures

-- a set that is joined with the empty mapping alone
pub returns-then-is_unit : goal.returns-then-is_unit
returns-then-is_unit g c =
    let test : Mapping Id → Bool = passes_all (g.F.Filters.passes c.args.by.now) (map expression_of c.args.filters.now) in
    let left = c.deref.ensures.value ∙ c.self.view_is in
    let right = c.deref-2.ensures.value ∙ c.right.view_is in
    let whole = ap (set_of (mapping_cmp id_order)) c.deref-2.ensures.value ∙ set_of_rising c.right.inside.mappings.items c.right.invariant ∙ c.right.view_is in
    let all = (λ i. join id_order (sym left i) (sym right i)) ∙ c.is_unit.ensures c.if-is_unit.true ∙ whole in
    c.up_to.ensures ∙ ap (up_to c.args.limit) (c.in_ok-kept.ensures ∙ ap (filter test) (sym all))
