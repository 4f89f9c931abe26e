use Rattle.std.specs.Prelude.{map, filter, filter_map}
use Rattle.std.specs.List.{flat_map}
use Rattle.std.proofs.Common.{◌≡◌, Bool, List, sym, ap, ◌∙◌}
use Rattle.sets.specs.Sets.{set_of}
use Rattle.algebra.specs.Expressions.{expression_of}
use Rattle.datasets.specs.declared.id.Id.{Id}
use Rattle.datasets.specs.Id.{id_order}
use Rattle.meaning.specs.Mapping.{Mapping, mapping_cmp, joined}
use Rattle.meaning.specs.Operators.{join, diff, union_of}
use Rattle.meaning.specs.Solutions.{passes_all}
use Rattle.solution.specs.Limits.{up_to}
use Rattle.solution.specs.Lookups.{near}
use Rattle.solution.proofs.Sizes.{merges_are, union_above, within}
use Rattle.solution.proofs.Tied.{has_all_is, joins_are, rest_are}
use Rattle.solution.proofs.solutions.Solutions.left_join_up_to.Goals as goal

pub returns-in_default : goal.returns-in_default
returns-in_default g c =
    let xs = c.args.self in
    let ys = c.args.right in
    let right = c.in_ok-right.right in
    let test : Mapping Id → Bool = passes_all (g.F.Filters.passes c.args.by.now) (map expression_of c.args.filters.now) in
    let all = has_all_is right.variables.items right.mappings.items right.loose.items _ ys c.right.view_is c.in_ok-right.ensures in
    let merges : Mapping Id → List (Mapping Id) = λ a. filter_map (joined id_order a) (near right.variables.items right.mappings.items right.loose.items a) in
    let is = merges_are test merges c.deref-2.result.now _ (joins_are right.variables.items right.mappings.items right.loose.items ys all xs c.deref-2.result.now (c.deref-2.ensures.value ∙ c.self.view_is)) in
    let found : List (Mapping Id) = flat_map (λ a. filter test (merges a)) c.deref-2.result.now in
    union_above c.args.limit found (diff id_order test xs ys) (sym c.in_default.is ∙ c.in_ok-merges.ensures)
    ∙ ap (λ zs. up_to c.args.limit (union_of id_order zs (diff id_order test xs ys))) is

pub returns : goal.returns
returns g c =
    let xs = c.args.self in
    let ys = c.args.right in
    let right = c.in_ok-right.right in
    let test : Mapping Id → Bool = passes_all (g.F.Filters.passes c.args.by.now) (map expression_of c.args.filters.now) in
    let all = has_all_is right.variables.items right.mappings.items right.loose.items _ ys c.right.view_is c.in_ok-right.ensures in
    let merges : Mapping Id → List (Mapping Id) = λ a. filter_map (joined id_order a) (near right.variables.items right.mappings.items right.loose.items a) in
    let is = merges_are test merges c.deref-2.result.now _ (joins_are right.variables.items right.mappings.items right.loose.items ys all xs c.deref-2.result.now (c.deref-2.ensures.value ∙ c.self.view_is)) in
    let found : c.in-Some.merges ≡ filter test (join id_order xs ys) =
    within c.args.limit c.in-Some.merges (set_of (mapping_cmp id_order) (flat_map (λ a. filter test (merges a)) c.deref-2.result.now)) (sym c.in-Some.is ∙ c.in_ok-merges.ensures) ∙ is in
    let rest : c.in_ok-rest.rest.items ≡ diff id_order test xs ys =
    c.in_ok-rest.ensures ∙ rest_are right.variables.items right.mappings.items right.loose.items ys all xs c.self.inside.mappings.items c.self.view_is test in
    c.up_to.ensures ∙ ap (up_to c.args.limit) (c.in_ok-all.ensures ∙ (λ i. union_of id_order (found i) (rest i)))
