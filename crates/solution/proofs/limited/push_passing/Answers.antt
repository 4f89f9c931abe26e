use Rattle.std.proofs.Common.{◌≡◌, ◌++◌, Bool, List, map, filter_map, sym, ap, ◌∙◌, append_assoc, subst}
use Rattle.std.specs.Prelude.{OnOk, filter}
use Rattle.std.proofs.lemmas.List.Elements.{filter_map-append, filter-append}
use Rattle.algebra.specs.Expressions.{expression_of}
use Rattle.datasets.specs.declared.id.Id.{Id}
use Rattle.datasets.specs.Id.{id_order}
use Rattle.meaning.specs.Mapping.{Mapping, joined}
use Rattle.meaning.specs.Solutions.{passes_all}
use Rattle.solution.proofs.limited.push_passing.Goals as goal

pub returns : goal.returns
returns g c =
    let test : Mapping Id → Bool = passes_all (g.F.Filters.passes c.args.by.now) (map expression_of c.args.filters.now) in
    let f = joined id_order c.args.a.now in
    let near = c.near.result.now in
    let loose = c.args.right.now.loose.items in
    let before = c.args.found.now.items in
    subst (λ (xs : List (Mapping Id)). OnOk c.push_merges-2.result (c.push_merges-2.new.found.items ≡ xs))
    ((λ i. c.in_ok-push_merges.ensures i ++ filter test (filter_map f (c.loose.ensures i)))
    ∙ append_assoc before (filter test (filter_map f near)) (filter test (filter_map f loose))
    ∙ ap (λ z. before ++ z) (sym (filter-append test (filter_map f near) (filter_map f loose)) ∙ ap (filter test) (sym (filter_map-append f near loose) ∙ ap (λ z. filter_map f (z ++ loose)) c.near.ensures)))
    c.push_merges-2.ensures
