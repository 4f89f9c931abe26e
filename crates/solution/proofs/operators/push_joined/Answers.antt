use Rattle.std.proofs.Common.{◌≡◌, ◌++◌, List, filter_map, sym, ap, ◌∙◌, append_assoc, subst}
use Rattle.std.specs.Prelude.{OnOk}
use Rattle.std.proofs.lemmas.List.Elements.{filter_map-append}
use Rattle.datasets.specs.declared.id.Id.{Id}
use Rattle.datasets.specs.Id.{id_order}
use Rattle.meaning.specs.Mapping.{Mapping, joined}
use Rattle.solution.proofs.operators.push_joined.Goals as goal

pub returns : goal.returns
returns c =
    let f = joined id_order c.args.a.now in
    let loose = c.args.right.now.loose.items in
    subst (λ (xs : List (Mapping Id)). OnOk c.push_merges-2.result (c.push_merges-2.new.found.items ≡ xs))
    ((λ i. c.in_ok-push_merges.ensures i ++ filter_map f (c.loose.ensures i)) ∙ append_assoc c.args.found.now.items (filter_map f c.near.result.now) (filter_map f loose)
    ∙ ap (λ z. c.args.found.now.items ++ z) (sym (filter_map-append f c.near.result.now loose) ∙ ap (λ z. filter_map f (z ++ loose)) c.near.ensures)) c.push_merges-2.ensures
