use Rattle.std.proofs.Common.{◌++◌, ◌∷◌, [], List, ℕ, ap, subst, ◌∙◌}
use Rattle.canonical_nquads.specs.Placed.{graph_line_at}
use Rattle.canonical_nquads.specs.Rising.{IsRising}
use Rattle.canonical_nquads.proofs.rising.push_one_graph.Goals as goal

pub returns : goal.returns
returns c e lines h =
    subst (λ (t : List ℕ). IsRising (lines ++ t ∷ []) c.push_line.new.made)
    (c.in_ok-push_graph_line.ensures ∙ ap (λ (t : List ℕ). t ++ graph_line_at c.args.texts.now c.args.name) c.clear.ensures.items) (c.in_ok-rises.ensures e lines h)
