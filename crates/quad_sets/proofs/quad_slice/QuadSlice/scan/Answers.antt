use Rattle.std.proofs.Common.{sym, ◌∙◌}
use Rattle.std.proofs.lemmas.List.Sorted.{list_any-IsPermutation}
use Rattle.datasets.specs.Id.{id_order}
use Rattle.datasets.specs.Dataset.{matches}
use Rattle.quad_index.proofs.Alike.{sorted_back}
use Rattle.quad_sets.proofs.Sorted.{filter_of_quads}
use Rattle.quad_sets.proofs.quad_slice.QuadSlice.scan.Goals as goal

pub of_list-requires : goal.of_list-requires
of_list-requires c =
    let fits = matches id_order c.args.pattern.now in
    let alike = c.in-Some.ensures c.args.self.now c.requires in
    filter_of_quads fits _ c.args.self.now
    (c.in_ok-found.ensures.found ∙ sorted_back fits c.args.self.now _ c.rises.ensures (λ t. sym (list_any-IsPermutation t _ _ alike)))
    c.rises.ensures

pub returns : goal.returns
returns c =
    let fits = matches id_order c.args.pattern.now in
    let alike = c.in-Some.ensures c.args.self.now c.requires in
    c.of_list.ensures
    ∙ c.in_ok-found.ensures.found
    ∙ sorted_back fits c.args.self.now _ c.rises.ensures (λ t. sym (list_any-IsPermutation t _ _ alike))
