use Rattle.std.proofs.Common.{◌++◌, ◌∷◌, [], List, ℕ, ap, subst, ◌∙◌}
use Rattle.canonical_nquads.specs.Placed.{quad_text_at}
use Rattle.canonical_nquads.specs.Rising.{IsRising}
use Rattle.canonical_nquads.proofs.rising.push_one_quad.Goals as goal

pub returns : goal.returns
returns c e lines h =
    subst (λ (t : List ℕ). IsRising (lines ++ t ∷ []) c.push_line.new.made)
    (c.in_ok-push_quad.ensures ∙ ap (λ (t : List ℕ). t ++ quad_text_at c.args.texts.now c.args.quad.now) c.clear.ensures.items) (c.in_ok-rises.ensures e lines h)
