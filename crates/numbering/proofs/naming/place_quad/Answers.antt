use Rattle.numbering.proofs.Places.{quad_placed, known_parts, known_kept, known_name_kept, further}
use Rattle.numbering.proofs.naming.place_quad.Goals as goal

pub place_of-requires : goal.place_of-requires
place_of-requires c = (known_parts c.args.table.now c.args.quad.now c.requires).0

pub place_of-requires-2 : goal.place_of-requires-2
place_of-requires-2 c =
    (known_kept c.terms_keep_places.ensures c.args.table.now c.place_of.new.table c.in_ok-subject.ensures.kept c.args.quad.now.predicate
    (known_parts c.args.table.now c.args.quad.now c.requires).1).1

pub place_of-requires-3 : goal.place_of-requires-3
place_of-requires-3 c =
    let on = further c.args.table.now c.place_of.new.table c.place_of-2.new.table c.in_ok-subject.ensures.kept c.in_ok-predicate.ensures.kept in
    (known_kept c.terms_keep_places.ensures c.args.table.now c.place_of-2.new.table on c.args.quad.now.object
    (known_parts c.args.table.now c.args.quad.now c.requires).2).1

pub place_name-requires : goal.place_name-requires
place_name-requires c =
    let on = further c.args.table.now c.place_of-2.new.table c.place_of-3.new.table
    (further c.args.table.now c.place_of.new.table c.place_of-2.new.table c.in_ok-subject.ensures.kept c.in_ok-predicate.ensures.kept) c.in_ok-object.ensures.kept in
    (known_name_kept c.terms_keep_places.ensures c.args.table.now c.place_of-3.new.table on c.args.quad.now.graph
    (known_parts c.args.table.now c.args.quad.now c.requires).3).1

pub returns-clause-quad : goal.returns-clause-quad
returns-clause-quad c =
    (quad_placed c.terms_keep_places.ensures c.args.table.now c.place_of.new.table c.place_of-2.new.table c.place_of-3.new.table c.place_name.new.table
    c.in_ok-subject.ensures.kept c.in_ok-predicate.ensures.kept c.in_ok-object.ensures.kept c.in_ok-graph.ensures.kept
    (record { subject = c.in_ok-subject.subject; predicate = c.in_ok-predicate.predicate; object = c.in_ok-object.object; graph = c.in_ok-graph.graph })
    c.args.quad.now c.requires
    c.in_ok-subject.ensures.term c.in_ok-subject.ensures.within c.in_ok-predicate.ensures.term c.in_ok-predicate.ensures.within
    c.in_ok-object.ensures.term c.in_ok-object.ensures.within c.in_ok-graph.ensures.name c.in_ok-graph.ensures.within).0

pub returns-clause-within : goal.returns-clause-within
returns-clause-within c =
    (quad_placed c.terms_keep_places.ensures c.args.table.now c.place_of.new.table c.place_of-2.new.table c.place_of-3.new.table c.place_name.new.table
    c.in_ok-subject.ensures.kept c.in_ok-predicate.ensures.kept c.in_ok-object.ensures.kept c.in_ok-graph.ensures.kept
    (record { subject = c.in_ok-subject.subject; predicate = c.in_ok-predicate.predicate; object = c.in_ok-object.object; graph = c.in_ok-graph.graph })
    c.args.quad.now c.requires
    c.in_ok-subject.ensures.term c.in_ok-subject.ensures.within c.in_ok-predicate.ensures.term c.in_ok-predicate.ensures.within
    c.in_ok-object.ensures.term c.in_ok-object.ensures.within c.in_ok-graph.ensures.name c.in_ok-graph.ensures.within).1
