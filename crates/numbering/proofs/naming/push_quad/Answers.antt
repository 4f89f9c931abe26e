use Rattle.std.proofs.Common.{◌∙◌}
use Rattle.numbering.proofs.Places.{stand_more, known_quad_kept}
use Rattle.numbering.proofs.naming.push_quad.Goals as goal

pub returns-clause-stands : goal.returns-clause-stands
returns-clause-stands c = λ dict done on known s.
    stand_more c.terms_keep_places.ensures dict c.args.table.now c.place_quad.new.table c.in_ok-placed.ensures.kept c.args.list.now.items c.push.new.self.items done
    c.in_ok-placed.placed c.args.quad.now c.in_ok-push.ensures.items
    (c.in_ok-placed.ensures.quad ∙ (known_quad_kept c.terms_keep_places.ensures dict c.args.table.now on c.args.quad.now known).0) c.in_ok-placed.ensures.within s
