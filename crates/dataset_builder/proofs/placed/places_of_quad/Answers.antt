use Rattle.terms.proofs.PlacedLaws.{four_places}
use Rattle.dataset_builder.proofs.placed.places_of_quad.Goals as goal

pub returns-clause-quad : goal.returns-clause-quad
returns-clause-quad c =
    (four_places c.args.terms.now c.place_of.new.terms c.place_of-2.new.terms c.place_of-3.new.terms c.place_of_name.new.terms
    c.in_ok-subject.ensures.kept c.in_ok-predicate.ensures.kept c.in_ok-object.ensures.kept c.in_ok-graph.ensures.kept
    (record { subject = c.in_ok-subject.subject; predicate = c.in_ok-predicate.predicate; object = c.in_ok-object.object; graph = c.in_ok-graph.graph }) c.args.quad
    c.in_ok-subject.ensures.term c.in_ok-subject.ensures.within c.in_ok-predicate.ensures.term c.in_ok-predicate.ensures.within
    c.in_ok-object.ensures.term c.in_ok-object.ensures.within c.in_ok-graph.ensures.name c.in_ok-graph.ensures.within).0

pub returns-clause-within : goal.returns-clause-within
returns-clause-within c =
    (four_places c.args.terms.now c.place_of.new.terms c.place_of-2.new.terms c.place_of-3.new.terms c.place_of_name.new.terms
    c.in_ok-subject.ensures.kept c.in_ok-predicate.ensures.kept c.in_ok-object.ensures.kept c.in_ok-graph.ensures.kept
    (record { subject = c.in_ok-subject.subject; predicate = c.in_ok-predicate.predicate; object = c.in_ok-object.object; graph = c.in_ok-graph.graph }) c.args.quad
    c.in_ok-subject.ensures.term c.in_ok-subject.ensures.within c.in_ok-predicate.ensures.term c.in_ok-predicate.ensures.within
    c.in_ok-object.ensures.term c.in_ok-object.ensures.within c.in_ok-graph.ensures.name c.in_ok-graph.ensures.within).1
