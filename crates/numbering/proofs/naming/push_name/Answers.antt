use Rattle.std.proofs.Common.{◌∙◌}
use Rattle.numbering.proofs.Places.{name_more, known_kept}
use Rattle.numbering.proofs.naming.push_name.Goals as goal

pub returns-clause-stands : goal.returns-clause-stands
returns-clause-stands c = λ dict done on known s.
    name_more c.terms_keep_places.ensures dict c.args.table.now c.place_of.new.table c.in_ok-placed.ensures.kept c.args.list.now.items c.push.new.self.items done
    c.in_ok-placed.placed c.args.name c.in_ok-push.ensures.items
    (c.in_ok-placed.ensures.term ∙ (known_kept c.terms_keep_places.ensures dict c.args.table.now on c.args.name known).0) c.in_ok-placed.ensures.within s
