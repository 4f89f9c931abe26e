use Rattle.std.proofs.Common.{◌++◌, List, ℕ, sym, subst, map, take}
use Rattle.std.proofs.lemmas.List.{get_or_default}
use Rattle.canonical_nquads.specs.Placed.{quad_text_at}
use Rattle.canonical_nquads.specs.Rising.{IsRising}
use Rattle.canonical_nquads.proofs.RisingLaws.{map_next}
use Rattle.canonical_nquads.proofs.rising.push_quads.Goals as goal

pub loop-quad-preserved : goal.loop-quad-preserved
loop-quad-preserved c lines h =
    let quads = c.args.quads.now in
    let i = c.loop-quad.quad-index in
    let f = quad_text_at c.args.texts.now in
    subst (λ (ls : List (List ℕ)). IsRising ls c.push_one_quad.new.made)
    (map_next f lines quads i _ c.loop-quad-test.true (sym (get_or_default quads i _ _ c.loop-quad-test.true)))
    (c.in_ok-rises.ensures c.if-not-rises.false (lines ++ map f (take i quads)) (c.loop-quad.invariant lines h))
