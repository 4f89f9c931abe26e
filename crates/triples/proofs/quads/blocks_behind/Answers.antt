use Rattle.std.proofs.Common.{refl, sym, ◌∙◌}
use Rattle.std.proofs.lemmas.Result.{err_from_is_err_and}
use Rattle.triples.specs.Reading.{blocks_behind}
use Rattle.triples.proofs.QuadLaws.{blocks_step, blocks_smaller, blocks_fail, blocks_close, blocks_open, gives_error}
use Rattle.triples.proofs.quads.blocks_behind.Goals as goal

pub loop-inside-init : goal.loop-inside-init
unfolding blocks_behind
loop-inside-init c = rw (c.in_ok-push.ensures.ok, c.new-found.ensures) refl

pub returns-in_err-block : goal.returns-in_err-block
returns-in_err-block c =
    let p = err_from_is_err_and c.from_residual-in_err-block.result c.from_residual-in_err-block.ensures.1 in
    gives_error _ _ _ _ _ _ p.1 p.2 c.loop-inside.invariant (blocks_fail c.loop-inside.found _ _ _ c.in-Some.ensures c.in_err-block.ensures)

pub loop-inside-smaller : goal.loop-inside-smaller
loop-inside-smaller c = rw c.kept-rest.ensures (blocks_smaller _ _ _ _ c.in-Some.ensures c.in_ok-block.ensures)

pub loop-inside-preserved : goal.loop-inside-preserved
loop-inside-preserved c =
    rw (c.in_ok-push-3.ensures.ok, c.in_ok-push-2.ensures.ok, c.kept-rest.ensures)
    (blocks_step c.loop-inside.found _ _ _ (c.in_ok-block.block, c.in_ok-block.default) c.in-Some.ensures c.in_ok-block.ensures ∙ c.loop-inside.invariant)

pub returns-in-Some-after_sign : goal.returns-in-Some-after_sign
returns-in-Some-after_sign c = sym c.loop-inside.invariant ∙ blocks_close c.loop-inside.found _ _ c.in_default.ensures c.in-Some-after_sign.ensures

pub returns : goal.returns
returns c = sym c.loop-inside.invariant ∙ blocks_open c.loop-inside.found _ c.in_default.ensures c.in-None.ensures
