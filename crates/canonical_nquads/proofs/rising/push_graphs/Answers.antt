use Rattle.std.specs.HashSet.{contains}
use Rattle.std.specs.Prelude.{not, nat_eq}
use Rattle.std.proofs.Common.{◌++◌, List, ℕ, sym, ap, subst, ◌∙◌, map, filter, take, get_or}
use Rattle.std.proofs.lemmas.Grind.{get_or_default_zero}
use Rattle.canonical_nquads.specs.Placed.{graph_line_at}
use Rattle.canonical_nquads.specs.Rising.{IsRising}
use Rattle.canonical_nquads.proofs.RisingLaws.{kept_next}
use Rattle.canonical_nquads.proofs.rising.push_graphs.Goals as goal

pub loop-name-preserved : goal.loop-name-preserved
loop-name-preserved c lines h =
    let names = c.args.names.now in
    let i = c.loop-name.name-index in
    let f = graph_line_at c.args.texts.now in
    let kept = λ (name : ℕ). not (contains nat_eq c.args.full.now name) in
    subst (λ (ls : List (List ℕ)). IsRising ls c.push_one_graph.new.made)
    (kept_next f kept lines names i (get_or names i 0) c.loop-name-test.true (sym (get_or_default_zero names i _ c.loop-name-test.true)) (ap not (sym c.contains.ensures ∙ c.if-contains.false)))
    (c.in_ok-rises.ensures c.if-not-rises.false (lines ++ map f (filter kept (take i names))) (c.loop-name.invariant lines h))
