use Rattle.std.proofs.Common.{sym, ap, ◌∙◌}
use Rattle.triples.specs.Reading.{same_at, triple_link, triples_at}
use Rattle.productions.specs.Many.{many}
use Rattle.productions.proofs.ManyLaws.{no_front, so_far, many_step, step_smaller}
use Rattle.triples.proofs.TripleLaws.{triples_consume}
use Rattle.triples.proofs.subjects.triples_at.Goals as goal

pub loop-goes_on-init : goal.loop-goes_on-init
unfolding triples_at
loop-goes_on-init c = rw c.new-found.ensures (no_front same_at triple_link (many same_at triple_link c.args.tokens.now))

pub loop-goes_on-smaller : goal.loop-goes_on-smaller
loop-goes_on-smaller c = rw c.kept-rest.ensures (step_smaller same_at triple_link triples_consume _ _ _ (c.triple_link-next.result.0, c.triple_link-next.result.1.now) c.in_ok-same.ensures c.triple_link-next.ensures)

pub loop-goes_on-preserved : goal.loop-goes_on-preserved
loop-goes_on-preserved c =
    rw (c.in_ok-push.ensures.ok, c.kept-rest.ensures)
    (many_step same_at triple_link triples_consume c.loop-goes_on.found _ _ _ (c.triple_link-next.result.0, c.triple_link-next.result.1.now) c.in_ok-same.ensures c.triple_link-next.ensures
    ∙ ap (λ b. so_far same_at triple_link b c.loop-goes_on.found c.loop-goes_on.rest.now) (sym c.loop-goes_on-test.true) ∙ c.loop-goes_on.invariant)
