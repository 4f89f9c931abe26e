use Rattle.std.proofs.Common.{◌∙◌, map, sym}
use Rattle.std.specs.Prelude.{slice_range}
use Rattle.quad_lists.specs.QuadList.{quads_in}
use Rattle.quad_lists.specs.Known.{quad_of}
use Rattle.quad_index.proofs.Looking.{map_part}
use Rattle.quad_index.proofs.order.Order.look_at_part.Goals as goal

pub returns-in-Narrow-clause-entries : goal.returns-in-Narrow-clause-entries
returns-in-Narrow-clause-entries c =
    map_part quad_of c.deref.result.now c.args.first c.args.past
    ∙ (λ i. slice_range (map quad_of (c.deref.ensures.value i)) c.args.first c.args.past)
    ∙ (λ i. slice_range (quads_in (sym c.in-Narrow.is i)) c.args.first c.args.past)
    ∙ (λ i. slice_range (c.self.view_is i).quads c.args.first c.args.past)
