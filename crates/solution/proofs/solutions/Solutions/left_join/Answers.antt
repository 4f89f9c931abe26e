use Rattle.std.specs.Prelude.{map, filter, IfOk}
use Rattle.std.proofs.Common.{◌≡◌, Bool, List, ap, ◌∙◌, subst}
use Rattle.sets.specs.Sets.{set_of}
use Rattle.algebra.specs.Expressions.{expression_of}
use Rattle.datasets.specs.declared.id.Id.{Id}
use Rattle.datasets.specs.Id.{id_order}
use Rattle.meaning.specs.Mapping.{Mapping, mapping_cmp}
use Rattle.meaning.specs.Operators.{join, diff, union_of}
use Rattle.meaning.specs.Solutions.{passes_all}
use Rattle.solution.proofs.Tied.{has_all_is, joins_are, rest_are}
use Rattle.solution.proofs.solutions.Solutions.left_join.Goals as goal

pub returns : goal.returns
returns g c =
    let xs = c.args.self in
    let ys = c.args.right in
    let right = c.in_ok-right.right in
    let test : Mapping Id → Bool = passes_all (g.F.Filters.passes c.args.by.now) (map expression_of c.args.filters.now) in
    let all = has_all_is right.variables.items right.mappings.items right.loose.items _ ys c.right.view_is c.in_ok-right.ensures in
    let joined : c.from_mappings-merges.result ≡ join id_order xs ys =
    c.from_mappings-merges.ensures
    ∙ ap (set_of (mapping_cmp id_order)) c.in_ok-joins.ensures
    ∙ joins_are right.variables.items right.mappings.items right.loose.items ys all xs c.deref-2.result.now (c.deref-2.ensures.value ∙ c.self.view_is) in
    let found : c.in_ok-found.found ≡ filter test (join id_order xs ys) = c.in_ok-found.ensures ∙ ap (filter test) joined in
    let rest : c.in_ok-rest.rest.items ≡ diff id_order test xs ys =
    c.in_ok-rest.ensures ∙ rest_are right.variables.items right.mappings.items right.loose.items ys all xs c.self.inside.mappings.items c.self.view_is test in
    subst (λ (all : List (Mapping Id)). IfOk c.union_with.result (λ x. x ≡ all)) (λ i. union_of id_order (found i) (rest i)) c.union_with.ensures
