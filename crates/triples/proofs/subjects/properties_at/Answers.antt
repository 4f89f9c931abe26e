use Rattle.std.proofs.Common.{sym, ap, ◌∙◌}
use Rattle.triples.specs.Reading.{property_at, property_link, properties_at}
use Rattle.productions.specs.Many.{many}
use Rattle.productions.proofs.ManyLaws.{no_front, so_far, many_step, step_smaller}
use Rattle.triples.proofs.PropertyLaws.{properties_consume}
use Rattle.triples.proofs.subjects.properties_at.Goals as goal

pub loop-goes_on-init : goal.loop-goes_on-init
unfolding properties_at
loop-goes_on-init c = rw (c.from_vec-found.ensures ∙ c.in_ok-with_capacity.ensures.items) (no_front property_at property_link (many property_at property_link c.args.tokens.now))

pub loop-goes_on-smaller : goal.loop-goes_on-smaller
loop-goes_on-smaller c = rw c.kept-rest.ensures (step_smaller property_at property_link properties_consume _ _ _ (c.property_link-next.result.0, c.property_link-next.result.1.now) c.in_ok-property.ensures c.property_link-next.ensures)

pub loop-goes_on-preserved : goal.loop-goes_on-preserved
loop-goes_on-preserved c =
    rw (c.in_ok-push.ensures.ok, c.kept-rest.ensures)
    (many_step property_at property_link properties_consume c.loop-goes_on.found _ _ _ (c.property_link-next.result.0, c.property_link-next.result.1.now) c.in_ok-property.ensures c.property_link-next.ensures
    ∙ ap (λ b. so_far property_at property_link b c.loop-goes_on.found c.loop-goes_on.rest.now) (sym c.loop-goes_on-test.true) ∙ c.loop-goes_on.invariant)
